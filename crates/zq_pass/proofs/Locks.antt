-- What the lock keeps.
use Rattle.std.proofs.Common.{◌≡◌, ℕ, List, [], ◌∷◌, ◌++◌, length, Option, Some, None, refl, sym, ap, ◌∙◌, subst, inl, inr}
use Rattle.std.specs.List.{filter}
use Rattle.std.specs.Prelude.{IfSome, not}
use Rattle.std.proofs.lemmas.List.{append-nil}
use Rattle.std.proofs.lemmas.List.Elements.{All-cons, All-nil, filter-append}
use Rattle.zq_machine.specs.declared.call.Call.{Call}
use Rattle.zq_machine.specs.declared.call.Call.TheVariants as call
use Rattle.zq_machine.specs.Calls.{is_sent}
use Rattle.zq_machine.specs.Configs.{Settings}
use Rattle.zq_machine.specs.Handing.{Handed}
use Rattle.zq_machine.specs.Machine.{done}
use Rattle.zq_shared.specs.Stored.{Stored, answer_to}
use Rattle.zq_shared.specs.Sharing.{EndsIn, IsSameHolds, Settles, reports, with_reports}
use Rattle.zq_pass.specs.Entries.{made_in}
use Rattle.zq_pass.specs.Passes.{Journaled, PassId}
use Rattle.zq_shared.specs.Answers.{AllFinals, AllListed, IsFinal, MayStand, behind}
use Rattle.zq_shared.specs.Sending.{Delivers, DeliversFinals, Mail}
use Rattle.zq_shared.proofs.Mails.{delivers_on, finals_on}
use Rattle.zq_pass.specs.Locking.{IsLocked}

none_made : (ks : List ℕ) → filter (λ (c : Call). not (is_sent c)) (reports ks) ≡ []
none_made [] = refl
none_made (k ∷ ks) = none_made ks

made_reported : (cs : List Call) (ks : List ℕ) → made_in (cs ++ reports ks) ≡ made_in cs
made_reported cs ks =
    ap (λ (l : List Call). length l) (filter-append (λ (c : Call). not (is_sent c)) cs (reports ks) ∙ (ap (λ (l : List Call). filter (λ (c : Call). not (is_sent c)) cs ++ l) (none_made ks) ∙ append-nil (filter (λ (c : Call). not (is_sent c)) cs)))

-- some reports more
pub locked_settled : (config : Settings) (home : PassId) (old new : Journaled) (total : ℕ) (ks : List ℕ) → IsLocked config home old total → new.sharing.stored ≡ with_reports old.sharing.stored ks → IsSameHolds old.sharing.slots new.sharing.slots → new.journal ≡ old.journal → IsLocked config home new total
locked_settled config home old new total ks h stored same journal = record {
  means = ap (λ (s : Stored). s.config) stored ∙ h.means;
  here = (λ i. record { holds = same.0 i; journal = journal i }) ∙ h.here;
  counted = h.counted ∙ (sym (made_reported old.sharing.stored.calls ks) ∙ ap (λ (s : Stored). made_in s.calls) (sym stored));
}

-- where no calls are listed each may stand
any_listed : (cs : List Call) → AllListed None cs
any_listed [] = All-nil (MayStand None)
any_listed (c ∷ cs) = All-cons (MayStand None) c cs (inr tt) (any_listed cs)

-- the step's messages, and the finals that were settled then
pub sent_step : (config : Settings) (handed hs : List Handed) (a b d e : Mail) → hs ≡ handed → Delivers hs a b → DeliversFinals config None b d → DeliversFinals config None d e
    → (fs : List Handed) × AllFinals config None fs × Delivers (handed ++ fs) a e
sent_step config handed hs a b d e x h m n =
    let rest = finals_on config None b d e m n in
    (rest.0, rest.1, delivers_on handed rest.0 a b e (subst (λ (l : List Handed). Delivers l a b) x h) rest.2)

ends_final : (config : Settings) (s : Stored) (ks : List ℕ) (a : Option Handed) → s.config ≡ config → EndsIn s ks a → IfSome a (IsFinal config None)
ends_final config s ks None means e = tt
ends_final config s ks (Some h) means (inl e) = absurd (let none = e.1 in cc)
ends_final config s ks (Some h) means (inr e) = (s.calls ++ reports e.0, e.1, subst (λ (c : Settings). answer_to (behind c (s.calls ++ reports e.0)) (call.Sent e.1) ≡ done (h ∷ [])) means e.3, any_listed (s.calls ++ reports e.0))

-- the final that comes of a settling
pub settled_final : (config : Settings) (s : Stored) (o : Option ℕ) (a : Option Handed) (new : Stored) → s.config ≡ config → Settles o s a new → IfSome a (IsFinal config None)
settled_final config s None a new means h = subst (λ (x : Option Handed). IfSome x (IsFinal config None)) (sym h.0) tt
settled_final config s (Some n) a new means h = ends_final config s h.0 a means h.1.ends
