-- The laws of what faces are told, at every point of every run.
use Rattle.std.proofs.Common.{◌≡◌, ◌∙◌, refl, sym, ap, ℕ, true, false, cond, true≢false, List, [], filter, fold, Some, None}
use Rattle.std.specs.Option.{is_some}
use Rattle.zq_interests.specs.declared.types.InterestEntry.{InterestEntry}
use Rattle.zq_told.specs.declared.types.Reason.TheVariants.{Answer, End}
use Rattle.zq_told.specs.ToldSets.{ToldSets, told_keys}
use Rattle.zq_told.specs.Laws.{is_to}
use Rattle.zq_told.specs.Receiver.{Heard, receive}
use Rattle.zq_told.specs.Leaving.{fresh_ear}
use Rattle.zq_told.proofs.Faces.{stay_sound}
use Rattle.zq_machine.specs.declared.call.Call.{Call}
use Rattle.zq_machine.specs.declared.call.Call.TheVariants as call
use Rattle.zq_machine.specs.declared.call.Opening.{Opening}
use Rattle.zq_machine.specs.Configs.{Settings}
use Rattle.zq_machine.specs.Deciding.{is_accepted}
use Rattle.zq_machine.specs.Due.{asked_keys, due, meant}
use Rattle.zq_interests.specs.Interests.{Interests, interests_of, meets, with_interest, without_interest}
use Rattle.zq_machine.specs.Machine.{after, settle, state_after, step}
use Rattle.zq_machine.specs.Neighbours.{answer_told, asked_at, ears_asked, ears_ended, ended_at, ended_told}
use Rattle.zq_machine.specs.Receivers.{AllTold, AskingTold, EndingTold, FaceTold, Hears, makes_due}
use Rattle.zq_machine.specs.State.{Core, State, at, is_open, opening_state}
use Rattle.zq_machine.specs.TextCalls.{TextCall, announcing, declaring, opening, read}
use Rattle.zq_machine.proofs.Agreed.{InOrder as Kept, next_absent, run_in_order}
use Rattle.zq_machine.proofs.DueLess.{brings, listens_stay}
use Rattle.zq_machine.proofs.Granted.{by_granted}
use Rattle.zq_machine.proofs.DueWhole.{accepted_less, closed_undue}
use Rattle.zq_machine.proofs.NeighbourAll.{all_hear, closed_untold, ears_sound, faces_kept, new_hears, new_last, told_ordered}
use Rattle.zq_machine.proofs.NeighbourAnswers.{asked_told, forgets_undue}
use Rattle.zq_machine.proofs.NeighbourAsked.{asker_ended, asker_told, ended_tells, lacks_asked, none_lack, others_asked, others_ended, others_quiet, others_untold}
use Rattle.zq_machine.proofs.NeighbourIds.{enough, lacks_are, new_face, opens}
use Rattle.zq_machine.proofs.NeighbourTells.{have_looked, tells_exactly}
use Rattle.zq_machine.proofs.NeighbourTold.{call_told, last_told, new_beside, open_after}

module _ (config : Settings) (calls : List Call) where
  abbrev s : State
  s = state_after (opening_state config) calls

  i : Kept config s
  i = run_in_order config calls

  -- ---- one face
  pub face_told : (c : Call) (ints : Interests) (ears : ToldSets) (face : ℕ) (heard : Heard) → is_open face s.core ≡ true → is_open face (after s c).core ≡ true
      → (h : Hears s.core ints ears face heard) → FaceTold s.core (after s c).core ints (read s c) ears face h.ear heard
  face_told c ints ears face heard was seen h = record {
    keeps = call_told config s i (read s c) ints face seen was ears heard (λ key. listens_stay config calls c ints face key was seen) h;
    some = have_looked config s i (read s c) ints face seen h.ear h.told (λ key off. ap (λ b. cond b (meant s.core ints face key) None) (sym (listens_stay config calls c ints face key was seen) ∙ off));
    exactly = tells_exactly config s i (read s c) ints face seen h.ear h.told
        (λ key off. ap (λ b. cond b (meant s.core ints face key) None) (sym (listens_stay config calls c ints face key was seen) ∙ off)) ears
        (new_beside config s i (read s c) ints face seen was ears (read s c) ∙ h.there);
    last = last_told config s i (read s c) ints face seen was ears heard h;
  }

  -- a face that is open after a call and was not before it was told nothing
  pub comes_told : (c : Call) (ints : Interests) (ears : ToldSets) (face : ℕ) → is_open face s.core ≡ false → is_open face (after s c).core ≡ true
      → FaceTold s.core (after s c).core ints (read s c) ears face (fresh_ear s.core.config.start.told) []
  comes_told c ints ears face was seen =
      let none : (key : List ℕ) → due s.core ints face key ≡ None = λ key. closed_undue s.core ints face key was in
      record {
        keeps = new_hears config s i (read s c) ints ears face seen was;
        some = have_looked config s i (read s c) ints face seen (fresh_ear s.core.config.start.told) (λ key. sym (none key)) (λ key off. none key);
        exactly = tells_exactly config s i (read s c) ints face seen (fresh_ear s.core.config.start.told) (λ key. sym (none key)) (λ key off. none key) ears (new_face config s i ints ears (read s c) face seen was).1;
        last = new_last config s i (read s c) ints ears face seen was;
      }

  pub new_told : (o : Opening) (ints : Interests) (ears : ToldSets) → is_accepted (step s (call.Open o)).outcome ≡ true
      → FaceTold s.core (after s (call.Open o)).core ints (read s (call.Open o)) ears s.core.next_face (fresh_ear s.core.config.start.told) []
  new_told o ints ears given = comes_told (call.Open o) ints ears s.core.next_face (ap is_some (next_absent s i.sound)) (open_after s o given)

  -- ---- all faces
  no_opening : (t : TextCall) → makes_due t ≡ false → opens t ≡ false
  no_opening (opening o) e = absurd (true≢false e)
  no_opening t e = refl

  no_bringing : (t : TextCall) → makes_due t ≡ false → brings t ≡ false
  no_bringing (declaring face id sd info node) e = absurd (true≢false e)
  no_bringing (announcing face sd info node) e = absurd (true≢false e)
  no_bringing t e = refl

  settled_less : (t : TextCall) (ints : Interests) (face : ℕ) (key : List ℕ) → makes_due t ≡ false → is_open face s.core ≡ true → is_some (due (settle s t).core ints face key) ≡ true → is_some (due s.core ints face key) ≡ true
  settled_less t ints face key none was =
      by_granted (λ z x. is_some (due x.core ints face key) ≡ true → is_some (due s.core ints face key) ≡ true) s t (λ text z w it. it) (λ p places z w it. it)
      (λ h. accepted_less config s i ints face key was t h (no_bringing t none)) (λ r some. some)

  pub all_told : (c : Call) (ints : Interests) (ears : ToldSets) → AllTold s.core (after s c).core ints (read s c) ears
  all_told c ints ears = record {
    ordered = told_ordered config s i (read s c) ints ears;
    silent = λ face shut. closed_untold config s i (read s c) ints ears face shut;
    sound = λ low a enough. ears_sound config s i (read s c) ints ears low a enough;
    faces = λ fits a of. faces_kept config s i (read s c) ints ears fits a of;
    hear = λ all. all_hear config s i (read s c) ints ears (λ face was seen key. listens_stay config calls c ints face key was seen) all;
    lacks = λ all ids. lacks_are config s i ints ears (read s c) all (λ face was seen key. listens_stay config calls c ints face key was seen) ids;
    enough = λ none all ids.
        enough config s i ints ears (read s c) all (λ face was seen key. listens_stay config calls c ints face key was seen) ids (no_opening (read s c) none)
        (λ face key was. settled_less (read s c) ints face key none was);
  }

-- ---- an interest, and its end
module _ (c : Core) (ints : Interests) (ears : ToldSets) (asker id : ℕ) (asked : InterestEntry) where
  pub asking_keeps : ((old : InterestEntry) → at id (interests_of asker ints) ≡ Some old → old.key ≡ asked.key) → AskingTold c ints (with_interest asker id asked ints) ears asker asked
  asking_keeps same = record {
    own = λ heard h. asker_told c ints ears asker id asked same heard h;
    answers = λ heard h. asked_told c (with_interest asker id asked ints) asker asked ears ints heard h;
    drops = λ heard h.
        forgets_undue c (with_interest asker id asked ints) (ears_asked c (with_interest asker id asked ints) ears asker asked) asker (asked_keys c (with_interest asker id asked ints) asker asked)
        (fold receive heard (filter (is_to asker) (answer_told c (with_interest asker id asked ints) ears asker asked))) (asker_told c ints ears asker id asked same heard h);
    others = λ face ne heard h. others_asked c ints ears asker id asked same face ne heard h;
    silent = λ face ne. others_untold c ints ears asker id asked same face ne;
    sound = λ a enough. stay_sound.tells Answer ears (asked_at c (with_interest asker id asked ints) asker asked) enough a;
    lacks = λ heard h ids. lacks_asked c ints ears asker id asked same heard h ids;
  }

  pub ending_keeps : at id (interests_of asker ints) ≡ Some asked → EndingTold c ints (without_interest asker id ints) ears asker asked
  ending_keeps was = record {
    own = λ heard h. asker_ended c ints ears asker id asked was heard h;
    others = λ face ne heard h. others_ended c ints ears asker id asked was face ne heard h;
    tells = λ heard h. ended_tells c ints ears asker id asked was heard h;
    drops = λ heard h.
        forgets_undue c (without_interest asker id ints) (ears_ended c (without_interest asker id ints) ears asker asked) asker (filter (meets asked.key) (told_keys asker ears))
        (fold receive heard (filter (is_to asker) (ended_told c (without_interest asker id ints) ears asker asked))) (asker_ended c ints ears asker id asked was heard h);
    silent = λ face ne. others_quiet c ints ears asker id asked was face ne;
    sound = λ a. stay_sound.tells End ears (ended_at c (without_interest asker id ints) ears asker asked) (none_lack c ints ears asker id asked was a.ids) a;
    enough = none_lack c ints ears asker id asked was;
  }
