-- What a call looks at does not hang on what is kept of faces; and no call lacks ids for what it tells that opens no face and declares nothing.
use Rattle.std.proofs.Common.{◌≡◌, ◌∙◌, refl, sym, ap, ℕ, true, false, List, None, true≢false}
use Rattle.std.specs.Prelude.{◌<◌, ◌^◌}
use Rattle.std.specs.Option.{is_some}
use Rattle.zq_told.specs.declared.types.Reason.TheVariants.{Update}
use Rattle.zq_told.specs.Leaving.{AreSound}
use Rattle.zq_told.specs.Telling.{lacks_ids}
use Rattle.zq_machine.specs.Configs.{Settings}
use Rattle.zq_machine.specs.Deciding.{accepted, kept, lacks_told, refusal_of}
use Rattle.zq_machine.specs.Due.{due, listens}
use Rattle.zq_machine.specs.Machine.{settle}
use Rattle.zq_machine.specs.Neighbours.{looked_at, neighbours_lack}
use Rattle.zq_machine.specs.Receivers.{AllHear, makes_due}
use Rattle.zq_machine.specs.State.{Core, State, is_open}
use Rattle.zq_machine.specs.TextCalls.{TextCall, announcing, declaring, opening}
use Rattle.zq_machine.proofs.Agreed.{InOrder}
use Rattle.zq_machine.proofs.DueLess.{brings, listens_kept}
use Rattle.zq_machine.proofs.DueWhole.{accepted_less}
use Rattle.zq_machine.proofs.Granted.{settled_of, settled_to}
use Rattle.zq_machine.proofs.Keeping.{is_plain, lacks_is, same_looked}
use Rattle.zq_machine.proofs.NeighbourAll.{new_sound}
use Rattle.zq_machine.proofs.NeighbourIds.{enough, opens}

-- whether ids lack, by what is looked at, where the call is no interest nor the end of one
pub lacks_looked : (c : Core) (t : TextCall) → is_plain t ≡ true → lacks_told c t ≡ lacks_ids Update (kept c t) (looked_at c (accepted c t) c.interests t)
lacks_looked c t plain = lacks_is c t plain ∙ ap (lacks_ids Update (kept c t)) (sym (same_looked c t))

no_opening : (t : TextCall) → makes_due t ≡ false → opens t ≡ false
no_opening (opening o) e = absurd (true≢false e)
no_opening t e = refl

no_bringing : (t : TextCall) → makes_due t ≡ false → brings t ≡ false
no_bringing (declaring face id sd info node) e = absurd (true≢false e)
no_bringing (announcing face sd info node) e = absurd (true≢false e)
no_bringing t e = refl

module _ (config : Settings) (s : State) (i : InOrder config s) (low : s.core.config.start.told < 2 ^ 32) (sound : AreSound s.core.ears) (hear : AllHear s.core s.core.interests s.core.ears)
    (t : TextCall) (fits : refusal_of s.core t ≡ None) where
  same : (face : ℕ) → is_open face s.core ≡ true → is_open face (settle s t).core ≡ true → (key : List ℕ) → listens (settle s t).core s.core.interests face key ≡ listens s.core s.core.interests face key
  same face was =
      settled_of (λ (c : Core). is_open face c ≡ true → (key : List ℕ) → listens c s.core.interests face key ≡ listens s.core s.core.interests face key) s t fits (λ places c it. it)
      (λ seen key. listens_kept config s i s.core.interests face key was t seen)

  less : makes_due t ≡ false → (face : ℕ) (key : List ℕ) → is_open face s.core ≡ true → is_some (due (settle s t).core s.core.interests face key) ≡ true → is_some (due s.core s.core.interests face key) ≡ true
  less none face key was =
      settled_of (λ (c : Core). is_some (due c s.core.interests face key) ≡ true → is_some (due s.core s.core.interests face key) ≡ true) s t fits (λ places c it. it)
      (accepted_less config s i s.core.interests face key was t fits (no_bringing t none))

  -- ids that a call does not lack which makes nothing due
  pub enough_told : is_plain t ≡ true → makes_due t ≡ false → lacks_told s.core t ≡ false
  enough_told plain none =
      lacks_looked s.core t plain
      ∙ settled_to (λ (c : Core). neighbours_lack s.core c s.core.interests t s.core.ears ≡ false) s t fits (λ places c it. it)
      (enough config s i s.core.interests s.core.ears t hear same (new_sound config s i t s.core.interests s.core.ears t low sound).ids (no_opening t none) (less none))
