-- Requests that do not leave: their entries are let go one after another.
use Rattle.std.proofs.Common.{◌≡◌, ◌∙◌, refl, sym, ap, ℕ, true, false, List, [], ◌∷◌, ◌++◌, Option, Some, None, Result, Ok, Err, append_assoc}
use Rattle.std.specs.Prelude.{is_none, OnOk, OnErr}
use Rattle.std.proofs.lemmas.Bool.{false≢true}
use Rattle.std.proofs.lemmas.List.Sums.{fold-append}
use Rattle.zq_message.specs.declared.message.FaceId.{FaceId}
use Rattle.zq_message.specs.declared.message.Message.{Message}
use Rattle.zq_message.specs.declared.message.Message.TheVariants as message
use Rattle.zq_message.specs.declared.message.Request.{Request}
use Rattle.zq_query.specs.Records.{QueryState, Record, any_over, is_entry, is_pending, letting_go, letting_go_all}
use Rattle.zq_query.proofs.Balance.{letting_none_over}
use Rattle.zq_query.proofs.Flying.{all_stay}
use Rattle.zq_query.proofs.Unchanged.{unchanged}
use Rattle.zq_machine.specs.Handing.{Handed}
use Rattle.zq_machine.specs.Writing.{Place, unsent, unsent_at}

pub unsent-append : (hs ks : List Handed) → unsent (hs ++ ks) ≡ unsent hs ++ unsent ks
unsent-append [] ks = refl
unsent-append (h ∷ hs) ks = ap (λ l. unsent_at h.to h.message h.leaves ++ l) (unsent-append hs ks) ∙ sym (append_assoc (unsent_at h.to h.message h.leaves) (unsent hs) (unsent ks))

-- no record is over once entries are let go
pub none_over : (places : List Place) (rs : List Record) → any_over rs ≡ false → any_over (letting_go_all rs places) ≡ false
none_over [] rs standing = standing
none_over (p ∷ places) rs standing = none_over places (letting_go (is_entry p.0 p.1) rs) (letting_none_over (is_entry p.0 p.1) rs)

-- those of one message more
pub one_more : (rs : List Record) (hs ks : List Handed) → letting_go_all (letting_go_all rs (unsent hs)) (unsent ks) ≡ letting_go_all rs (unsent (hs ++ ks))
one_more rs hs ks =
    sym (fold-append (λ (l : List Record) (p : ℕ × ℕ). letting_go (is_entry p.0 p.1) l) rs (unsent hs) (unsent ks))
    ∙ ap (letting_go_all rs) (sym (unsent-append hs ks))

-- ---- one entry
-- what is answered where an entry is let go, or is not there: it is there no longer
pub no_longer : {X E : Type 0} (old new : QueryState) (face id : ℕ) → any_over old.records ≡ false → (r : Result X E)
    → OnOk r (new ≡ record old { records = letting_go (is_entry face id) old.records }) → OnErr r ((is_pending face id old.records ≡ false) × (new ≡ old))
    → new ≡ record old { records = letting_go (is_entry face id) old.records }
no_longer old new face id standing (Ok x) there away = there
no_longer old new face id standing (Err e) there away = away.1 ∙ ap (λ (rs : List Record). record old { records = rs }) (sym (unchanged face id old.records away.0 (all_stay old.records standing)))

-- the place of a request that does not leave
pub its_place : (to : FaceId) (m : Message) (r : Request) (left : Option Message) → m ≡ message.Request r → is_none left ≡ true → (to.0, r.id) ∷ [] ≡ unsent_at to m left ++ []
its_place to m r (Some x) is none = absurd (false≢true none)
its_place to m r None is none = ap (λ x. unsent_at to x None ++ []) (sym is)
