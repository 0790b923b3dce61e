-- What ends a declaration or an interest follows it.
use Rattle.std.proofs.Common.{◌≡◌, Option, Some, None, refl, ap, ◌∙◌}
use Rattle.std.specs.Option.{is_some}
use Rattle.zq_message.specs.declared.message.DeclareBody.TheVariants as declare
use Rattle.zq_message.specs.declared.message.Message.{Message}
use Rattle.zq_message.specs.declared.message.Message.TheVariants as message
use Rattle.zq_namespace.specs.Leaves.{ExitState, after_leaving, after_out, declare_with, kept, leaves}
use Rattle.zq_namespace.specs.Laws.{EndsFollow}
use Rattle.zq_namespace.proofs.Keeping.{head-back, head-found, id-back, id-found}

follow : (s : ExitState) (m e : Message) → leaves s e ≡ Some e → leaves (kept s m) e ≡ None → kept (kept s m) e ≡ s → (is_some (leaves (after_leaving s m) e) ≡ is_some (leaves s m)) × (after_leaving (after_leaving s m) e ≡ s)
follow s m e out none back = at (leaves s m)
  where
    at : (o : Option Message) → (is_some (leaves (after_out o s (kept s m)) e) ≡ is_some o) × (after_leaving (after_out o s (kept s m)) e ≡ s)
    at (Some x) = (ap is_some out, ap (λ l. after_out l s (kept s e)) out)
    at None = (ap is_some none, ap (λ l. after_out l (kept s m) (kept (kept s m) e)) none ∙ back)

pub ends-follow : EndsFollow
ends-follow = record {
  keys = λ d e id w s h. follow s (declare_with d (declare.DeclareKeyExpr id w)) (declare_with e (declare.UndeclareKeyExpr id)) (rw h refl) (rw (head-found id w.suffix s.heads) refl) (ap (λ l. record s { heads = l }) (head-back id w.suffix s.heads h));
  queryables = λ d e id w info s h. follow s (declare_with d (declare.DeclareQueryable id w info)) (declare_with e (declare.UndeclareQueryable id None)) (rw h refl) (rw (id-found id s.queryables) refl) (ap (λ l. record s { queryables = l }) (id-back id s.queryables h));
  interests = λ i s h. follow s (message.Interest i) (message.InterestFinal i.id) (rw h refl) (rw (id-found i.id s.interests) refl) (ap (λ l. record s { interests = l }) (id-back i.id s.interests h));
}
