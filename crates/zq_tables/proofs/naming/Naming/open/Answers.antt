use Rattle.std.proofs.Common.{◌∙◌, ℕ, List, ap, sym, subst}
use Rattle.std.specs.Option.{is_some}
use Rattle.std.specs.Ordering.{nat_cmp}
use Rattle.std.specs.Map.{keys_of}
use Rattle.std.specs.List.Sorted.{IsStrictlySortedBy}
use Rattle.zq_tables.specs.Naming.{NamingState, naming_at, opened_naming}
use Rattle.zq_tables.proofs.Emptied.{emptied_put, keys_texts, opened, opened_texts, open_naming}
use Rattle.zq_tables.proofs.naming.Naming.open.Goals as goal
use Rattle.zq_key.proofs.Truth.{none_from}

pub returns-then-contains_key-clause-ok : goal.returns-then-contains_key-clause-ok
returns-then-contains_key-clause-ok c =
    let face = c.args.face.0 in
    let names = c.self.inside.names in
    let faces = c.self.inside.faces.entries in
    let rows = c.self.inside.rows.entries in
    let S : List ℕ → Type 0 = IsStrictlySortedBy nat_cmp in
    let sorted : IsStrictlySortedBy nat_cmp (keys_of c.args.self.now.faces) = subst S (sym (keys_texts names faces) ∙ ap (λ (s : NamingState). keys_of s.faces) c.self.view_is) c.len-open.ensures.ordered in
    c.give_up.ensures
    ∙ emptied_put c.args.self.now face sorted
    (ap (λ (s : NamingState). is_some (naming_at face s)) (sym c.self.view_is) ∙ open_naming names faces rows face ∙ sym c.contains_key.ensures ∙ c.if-contains_key.true)

pub invariant_of-self : goal.invariant_of-self
invariant_of-self c =
    opened c.self.inside.names c.self.inside.faces.entries c.insert.new.self.entries c.self.inside.rows.entries c.args.face.0 c.new.result c.new.ensures.theirs c.new.ensures.ours c.new.ensures.queryables c.new.ensures.interests c.in-Ok.ensures.entries c.self.invariant
    (none_from _ (sym c.contains_key.ensures ∙ c.if-contains_key.false))

pub returns-in-Ok-clause-ok : goal.returns-in-Ok-clause-ok
returns-in-Ok-clause-ok c =
    opened_texts c.self.inside.names c.self.inside.faces.entries c.insert.new.self.entries c.self.inside.rows.entries c.args.face.0 c.new.result c.new.ensures.theirs c.new.ensures.ours c.new.ensures.queryables c.new.ensures.interests c.in-Ok.ensures.entries
    ∙ ap (opened_naming c.args.face.0) c.self.view_is
