use Rattle.std.proofs.Common.{◌≡◌, ◌++◌, ◌∙◌, ap, sym, refl, subst, List, ℕ, true, false, eqb, arith, Some, None, Result, Ok, Err, OnOk}
use Rattle.std.specs.Str.{bytes_eq}
use Rattle.std.proofs.lemmas.Bool.Decides.{nat_tests}
use Rattle.zq_key.specs.Key.{is_key}
use Rattle.zq_names.specs.Names.{entry_at}
use Rattle.zq_tables.specs.FaceIds.{FaceIds, of_id, AreLive}
use Rattle.zq_tables.specs.FaceTexts.{texts_of, full_of}
use Rattle.zq_tables.specs.Registering.{Maps, Registers}
use Rattle.zq_tables.proofs.FaceLemmas.{live_node, mapped_texts, mapped_live, same_texts, refusal-new, refusal-same, refusal-other, text_absent, text_there}
use Rattle.zq_tables.proofs.face.FaceNames.register_expr.Goals as goal

both_parts : {a b x y : List ℕ} → a ≡ x → b ≡ y → a ++ b ≡ x ++ y
both_parts e f = rw (e, f)

pub expr-requires-in-Some-get_mapping : goal.expr-requires-in-Some-get_mapping
expr-requires-in-Some-get_mapping c = live_node c.args.names.now c.args.self.now.theirs c.args.id c.in-Some-get_mapping.node.0 c.requires.theirs (sym c.in-Some-get_mapping.ensures)

pub returns-then-eq-clause-accepted : goal.returns-then-eq-clause-accepted
returns-then-eq-clause-accepted c =
    let names = c.args.names.now in
    let face = c.args.self.now in
    let t = (entry_at names c.in-Some.from.0).text ++ c.args.wire.now.suffix in
    let text : c.in_ok-text.text ≡ t = c.in_ok-text.ensures ∙ both_parts c.expr.ensures c.as_str.ensures in
    let key : is_key t ≡ true = ap is_key (sym (c.as_str-2.ensures ∙ text)) ∙ sym c.if-not-is_key.ensures in
    let some : eqb c.args.id 0 ≡ false = grind (arith, nat_tests) in
    let node = c.in-Some-get_mapping.node.0 in
    let equal : bytes_eq (entry_at names node).text t ≡ true = sym (c.if-eq.ensures ∙ rw (c.expr-in-Some-get_mapping.ensures, c.as_str-in-Some-get_mapping.ensures, text)) in
    refusal-same (texts_of names face) c.args.id c.args.wire.now t (entry_at names node).text c.in-Some.ensures.some key some (text_there names face.theirs c.args.id node (sym c.in-Some-get_mapping.ensures)) equal

pub returns-then-eq-clause-ids : goal.returns-then-eq-clause-ids
returns-then-eq-clause-ids c =
    let names = c.args.names.now in
    let face = c.args.self.now in
    let t = (entry_at names c.in-Some.from.0).text ++ c.args.wire.now.suffix in
    let there = sym c.in-Some-get_mapping.ensures in
    record {
      text = t;
      full = c.in-Some.ensures.some;
      maps = rw there (refl, refl);
      texts = same_texts names face c.args.id c.in-Some-get_mapping.node.0 t there;
      live = c.requires;
    }

pub returns-in-Some-get_mapping-clause-reason : goal.returns-in-Some-get_mapping-clause-reason
returns-in-Some-get_mapping-clause-reason c =
    let names = c.args.names.now in
    let face = c.args.self.now in
    let t = (entry_at names c.in-Some.from.0).text ++ c.args.wire.now.suffix in
    let text : c.in_ok-text.text ≡ t = c.in_ok-text.ensures ∙ both_parts c.expr.ensures c.as_str.ensures in
    let key : is_key t ≡ true = ap is_key (sym (c.as_str-2.ensures ∙ text)) ∙ sym c.if-not-is_key.ensures in
    let some : eqb c.args.id 0 ≡ false = grind (arith, nat_tests) in
    let node = c.in-Some-get_mapping.node.0 in
    let unequal : bytes_eq (entry_at names node).text t ≡ false = sym (c.if-eq.ensures ∙ rw (c.expr-in-Some-get_mapping.ensures, c.as_str-in-Some-get_mapping.ensures, text)) in
    refusal-other (texts_of names face) c.args.id c.args.wire.now t (entry_at names node).text c.in-Some.ensures.some key some (text_there names face.theirs c.args.id node (sym c.in-Some-get_mapping.ensures)) unequal

on_ok : {X E : Type 0} (r : Result X E) (P Q : Type 0) → OnOk r P → (P → Q) → OnOk r Q
on_ok (Ok x) P Q p then_q = then_q p
on_ok (Err e) P Q p then_q = tt

new_id : (names names' : _) (old new : FaceIds) (i : ℕ) (w : _) (t : List ℕ) → full_of (texts_of names old) w ≡ Some t → of_id old.theirs i ≡ None → AreLive names old → Maps names names' old new i t → Registers names names' old new i w
new_id names names' old new i w t full absent live maps = record {
  text = t;
  full = full;
  maps = rw absent maps;
  texts = mapped_texts names names' old new i t maps.r live maps.kept maps.named absent maps.mapped maps.ours;
  live = mapped_live names names' old new i t maps.r live maps.kept maps.named maps.mapped maps.ours;
}

pub returns-clause-accepted : goal.returns-clause-accepted
returns-clause-accepted c =
    let names = c.args.names.now in
    let face = c.args.self.now in
    let t = (entry_at names c.in-Some.from.0).text ++ c.args.wire.now.suffix in
    let text : c.in_ok-text.text ≡ t = c.in_ok-text.ensures ∙ both_parts c.expr.ensures c.as_str.ensures in
    let key : is_key t ≡ true = ap is_key (sym (c.as_str-2.ensures ∙ text)) ∙ sym c.if-not-is_key.ensures in
    let some : eqb c.args.id 0 ≡ false = grind (arith, nat_tests) in
    let absent : of_id face.theirs c.args.id ≡ None = sym c.in_default-get_mapping.ensures in
    on_ok c.map_new.result _ _ c.map_new.ensures.ok (λ maps. refusal-new (texts_of names face) c.args.id c.args.wire.now t c.in-Some.ensures.some key some (text_absent names face.theirs c.args.id absent))

pub returns-clause-ids : goal.returns-clause-ids
returns-clause-ids c =
    let names = c.args.names.now in
    let face = c.args.self.now in
    let t = (entry_at names c.in-Some.from.0).text ++ c.args.wire.now.suffix in
    let absent : of_id face.theirs c.args.id ≡ None = sym c.in_default-get_mapping.ensures in
    let C : List ℕ → Type 0 = λ (s : List ℕ). Maps names c.map_new.new.names face c.map_new.new.self c.args.id ((entry_at names c.in-Some.from.0).text ++ s) in
    on_ok c.map_new.result _ _ c.map_new.ensures.ok (λ maps. new_id names c.map_new.new.names face c.map_new.new.self c.args.id c.args.wire.now t c.in-Some.ensures.some absent c.requires (subst C c.as_str-3.ensures maps))
