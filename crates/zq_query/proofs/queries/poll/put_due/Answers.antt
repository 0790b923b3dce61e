use Rattle.std.proofs.Common.{◌≡◌, ◌∙◌, [], Bool, true, false, cond, Option, Some, None, refl, sym, ap}
use Rattle.std.specs.Prelude.{◌||◌}
use Rattle.std.specs.Cmp.{eq_by_cmp_equiv}
use Rattle.std.specs.List.{cons_option}
use Rattle.std.specs.BTreeMap.{is_at}
use Rattle.std.specs.Option.{option_copied, option_map}
use Rattle.std.proofs.Math.Bool.{or-true, or-false}
use Rattle.zq_query.specs.declared.queries.Owed.{Owed}
use Rattle.zq_query.specs.FaceEntries.{has_key}
use Rattle.zq_query.specs.Tables.{Due, due_cmp, at_place}
use Rattle.zq_query.proofs.Keys.{due_total}
use Rattle.zq_query.proofs.queries.poll.put_due.Goals as goal

as_or : (a b c : Bool) → a ≡ c → cond a true b ≡ (b || c)
as_or true b c e = sym (ap (λ x. b || x) (sym e) ∙ or-true b)
as_or false true c e = refl
as_or false false c e = e

pub returns-in_default : goal.returns-in_default
returns-in_default c = λ q.
    let none : at_place c.args.place c.args.pending.now.entries ≡ None = sym c.get.ensures.value ∙ ap option_copied c.in_default.is in
    sym (ap (λ (o : Option Owed). has_key due_cmp q c.args.set.now.keys || has_key due_cmp q (cons_option (option_map (λ (v : Owed). (v.deadline, v.number, c.args.place.0)) o) [])) none
    ∙ or-false (has_key due_cmp q c.args.set.now.keys))

pub returns-in-Ok : goal.returns-in-Ok
returns-in-Ok c = λ q.
    let v = c.in-Some.owed.now in
    let d : Due = (v.deadline, v.number, c.args.place.0) in
    let some : Some v ≡ at_place c.args.place c.args.pending.now.entries = c.in-Some.ensures.value in
    c.in-Ok.ensures.updates.0 q
    ∙ as_or (is_at (due_cmp d) q) (has_key due_cmp q c.args.set.now.keys) (is_at (due_cmp q) d) ((eq_by_cmp_equiv due_total).symm d q)
    ∙ ap (λ b. has_key due_cmp q c.args.set.now.keys || b) (sym (or-false (is_at (due_cmp q) d)))
    ∙ ap (λ (o : Option Owed). has_key due_cmp q c.args.set.now.keys || has_key due_cmp q (cons_option (option_map (λ (w : Owed). (w.deadline, w.number, c.args.place.0)) o) [])) some
