use Rattle.std.proofs.Common.{◌≡◌, ◌<◌, ◌++◌, ℕ, List, Option, None, get_or, length, map, sym, ap, subst, ◌∙◌, arith}
use Rattle.std.specs.List.{remove}
use Rattle.std.proofs.lemmas.List.{get_or_default}
use Rattle.zq_names.specs.declared.node.Node.{Node}
use Rattle.zq_names.specs.declared.node.ResourceId.{ResourceId}
use Rattle.zq_names.specs.Names.{NameEntry, slot, rows, entry_of, without_match}
use Rattle.zq_names.specs.Forgetting.{Drops}
use Rattle.zq_names.proofs.Rows.{row_at}
use Rattle.zq_names.proofs.Forgetting.{Forgets, Drops-more, rows-forgot, IsTable-forgot, IsLinked-forgot}
use Rattle.zq_names.proofs.edit.remove_at.Goals as goal

same_number : (order : List ℕ) (at id : ℕ) → at < length order → id ≡ get_or order at id → id ≡ get_or order at 0
same_number order at id lt is = is ∙ get_or_default order at id 0 lt

twice : (a b c : List (Option Node)) (i j : ℕ) (xs ys us vs : List ResourceId) → i ≡ j → xs ≡ us → ys ≡ vs → Drops a b i xs → Drops b c i ys → Drops a c j (us ++ vs)
twice a b c i j xs ys us vs number first second p q =
    let P : ℕ → Type 0 = λ (k : ℕ). Drops a c k (us ++ vs) in
    let X : List ResourceId → Type 0 = λ (l : List ResourceId). Drops a c i (l ++ vs) in
    let Y : List ResourceId → Type 0 = λ (l : List ResourceId). Drops a c i (xs ++ l) in
    subst P number (subst X first (subst Y second (Drops-more a b c i xs ys p q)))

forgets : (old middle last new : List (Option Node)) (order : List ℕ) (at id : ℕ) (node : Node) (xs ys : List ResourceId) → at < length order → id ≡ get_or order at id
    → slot old (get_or order at 0) ≡ Option.Some node → slot middle (get_or order at 0) ≡ None → ((j : ℕ) → (j ≡ get_or order at 0 → ⊥) → slot middle j ≡ slot old j)
    → xs ≡ node.matches.items → ys ≡ node.former.items → Drops middle last id xs → Drops last new id ys → Forgets old middle new (get_or order at 0) node
forgets old middle last new order at id node xs ys lt is was gone others first second p q = record {
  was = was;
  is = gone;
  others = others;
  drops = twice middle last new id (get_or order at 0) xs ys node.matches.items node.former.items (same_number order at id lt is) first second p q;
}

pub returns : goal.returns
returns c =
    let nodes = c.args.nodes.now.slots in
    let order = c.args.order.now in
    let at = c.args.at in
    let lt : at < length order = omega (arith, c.requires.in_range) in
    let took = c.take_out-text.ensures in
    let node = c.take_out-text.result in
    let middle = c.take_out-text.new.nodes.slots in
    let rest = c.take_out-text.new.order in
    let new = c.forget-2.new.nodes.slots in
    let i = get_or order at 0 in
    let all = forgets nodes middle c.forget.new.nodes.slots new order at c.get-id.result node c.deref.result.now c.deref-2.result.now lt c.get-id.ensures.here took.was took.gone took.others c.deref.ensures.value c.deref-2.ensures.value c.forget.ensures c.forget-2.ensures in
    let linked = c.requires.sound.linked in
    let number : i ≡ (get_or (rows nodes order) at (entry_of 0 None)).id = sym (ap (λ (e : NameEntry). e.id) (row_at nodes order at i lt (get_or_default order at 0 i lt))) in
    record {
      sound = record {
        table = IsTable-forgot nodes middle new rest i node linked all took.table;
        linked = IsLinked-forgot nodes middle new i node linked all;
      };
      rows = rows-forgot nodes middle new rest i node linked all ∙ ap (λ (l : List NameEntry). map (without_match i) l) took.rows ∙ ap (λ (k : ℕ). map (without_match k) (remove (rows nodes order) at)) number;
      text = took.text;
      fewer = took.fewer;
    }
