-- Storages that were asked reply, one after another, and then each ends: the replies are handed in order, and the last end hands the final.
use Rattle.std.proofs.Common.{◌≡◌, ◌∙◌, refl, sym, ap, ℕ, ◌+◌, ◌<◌, ◌^◌, Bool, true, false, cond, not, List, [], ◌∷◌, ◌++◌, map, None, length, arith, eqb-true}
use Rattle.std.specs.Prelude.{◌==◌, ◌&&◌, ◌||◌}
use Rattle.std.specs.List.{AllByRecursion, filter, flat_map, list_any}
use Rattle.std.proofs.lemmas.Bool.{and_parts, false≢true}
use Rattle.zq_key.specs.Key.{is_key}
use Rattle.zq_message.specs.declared.message.FaceId.{FaceId}
use Rattle.zq_message.specs.declared.message.ReplyBody.TheVariants as body
use Rattle.zq_query.specs.Records.{Pending, is_entry, is_none_left}
use Rattle.zq_tables.specs.Naming.{NamingState, plain}
use Rattle.zq_machine.specs.declared.call.Call.{Call}
use Rattle.zq_machine.specs.declared.call.Call.TheVariants as call
use Rattle.zq_machine.specs.declared.call.Step.{Step}
use Rattle.zq_machine.specs.Handing.{Handed}
use Rattle.zq_machine.specs.Machine.{after, state_after, step, steps_from}
use Rattle.zq_machine.specs.State.{Core, State, is_open}
use Rattle.zq_machine.specs.Writing.{sent_final, sent_reply}
use Rattle.zq_local.proofs.Lists.{Pairwise, all_both}
use Rattle.zq_local.proofs.Quiet.{end_hands, end_leaves, last_hands, last_leaves, one, one_open, reply_hands, reply_leaves, sent_hands, sent_leaves, with_all}

-- all that steps hand
abbrev pub handed_by : List Step → List Handed
handed_by ts = flat_map (λ (t : Step). t.handed) ts

not_last : (n : ℕ) → n + 1 < 2 ^ 64 → (n + 1 == 2 ^ 64) ≡ false
not_last n less = by (n + 1 == 2 ^ 64) refl
  where
    by : (b : Bool) → (n + 1 == 2 ^ 64) ≡ b → b ≡ false
    by true e = let same = eqb-true (n + 1) (2 ^ 64) e in absurd (omega (arith, same, less))
    by false e = refl

module _ (core : Core) (names : NamingState) (number : ℕ) (asker : FaceId) (id qos : ℕ) (last_ids : List (ℕ × ℕ)) (requests request_ids : ℕ) where
  -- one request is open, with these entries, and no reply of it is in flight
  abbrev pub waiting : List Pending → ℕ → State
  waiting pending n = with_all core names (one_open core names number asker id qos last_ids requests request_ids (one core names number asker id qos last_ids requests request_ids pending [] ∷ []) n)

  -- nothing is open
  abbrev pub settled : ℕ → State
  settled n = with_all core names (one_open core names number asker id qos last_ids requests request_ids [] n)

  module _ {A : Type 0} (face : A → FaceId) (rid : A → ℕ) (key value : A → List ℕ) (pending : List Pending) where
    abbrev pub reply_call : A → Call
    reply_call a = call.Response (face a) (record { rid = rid a; wire = plain (key a); qos = 0; payload = body.Reply (value a); responder = None })

    abbrev pub calls : ℕ → List A → List Call
    calls n [] = []
    calls n (a ∷ xs) = reply_call a ∷ call.Sent n ∷ calls (n + 1) xs

    abbrev pub sent_one : ℕ → A → Handed
    sent_one n a = sent_reply (record { to = asker; number = number; reply = n; id = id; text = key a; qos = qos; payload = body.Reply (value a); responder = None })

    abbrev pub sent_all : ℕ → List A → List Handed
    sent_all n [] = []
    sent_all n (a ∷ xs) = sent_one n a ∷ sent_all (n + 1) xs

    -- a reply of a storage that is open and was asked, on a key
    abbrev pub IsFit : A → Type 0
    IsFit a = (is_open (face a).0 core ≡ true) × (list_any (is_entry (face a).0 (rid a)) pending ≡ true) × (is_key (key a) ≡ true)

    module _ (a : A) (fit : IsFit a) (n : ℕ) (fits : (n + 1 == 2 ^ 64) ≡ false) where
      abbrev first : State
      first = after (waiting pending n) (reply_call a)

      flying_leaves : after first (call.Sent n) ≡ waiting pending (n + 1)
      flying_leaves =
          (λ j. after (reply_leaves core names number asker id qos last_ids requests request_ids pending (face a) (rid a) fit.0 fit.1 n (key a) (value a) fit.2 fits j) (call.Sent n))
          ∙ sent_leaves core names number asker id qos last_ids requests request_ids pending (face a) (rid a) fit.0 fit.1 n

      flying_hands : (step first (call.Sent n)).handed ≡ []
      flying_hands =
          (λ j. (step (reply_leaves core names number asker id qos last_ids requests request_ids pending (face a) (rid a) fit.0 fit.1 n (key a) (value a) fit.2 fits j) (call.Sent n)).handed)
          ∙ sent_hands core names number asker id qos last_ids requests request_ids pending (face a) (rid a) fit.0 fit.1 n

      first_hands : (step (waiting pending n) (reply_call a)).handed ≡ sent_one n a ∷ []
      first_hands = reply_hands core names number asker id qos last_ids requests request_ids pending (face a) (rid a) fit.0 fit.1 n (key a) (value a) fit.2 fits

    pub replies_hand : (xs : List A) (n : ℕ) → AllByRecursion IsFit xs → n + length xs < 2 ^ 64 → handed_by (steps_from (waiting pending n) (calls n xs)) ≡ sent_all n xs
    replies_hand [] n fit less = refl
    replies_hand (a ∷ xs) n fit less =
        let fits = not_last n (omega (arith, less)) in
        (λ j. first_hands a fit.0 n fits j ++ (flying_hands a fit.0 n fits j ++ handed_by (steps_from (flying_leaves a fit.0 n fits j) (calls (n + 1) xs))))
        ∙ ap (λ l. sent_one n a ∷ l) (replies_hand xs (n + 1) fit.1 (omega (arith, less)))

    pub replies_leave : (xs : List A) (n m : ℕ) → AllByRecursion IsFit xs → n + length xs < 2 ^ 64 → m ≡ n + length xs → state_after (waiting pending n) (calls n xs) ≡ waiting pending m
    replies_leave [] n m fit less is = ap (waiting pending) (omega (arith, is))
    replies_leave (a ∷ xs) n m fit less is =
        let fits = not_last n (omega (arith, less)) in
        ap (λ s. state_after s (calls (n + 1) xs)) (flying_leaves a fit.0 n fits) ∙ replies_leave xs (n + 1) m fit.1 (omega (arith, less)) (omega (arith, is))

  module _ {T : Type 0} (face : T → FaceId) (rid : T → ℕ) (n : ℕ) where
    abbrev pub end_call : T → Call
    end_call t = call.ResponseFinal (face t) (rid t)

    abbrev pub is_its : T → Pending → Bool
    is_its t e = is_entry (face t).0 (rid t) e

    -- the storage is open, and an entry is pending there
    abbrev pub IsAsked : List Pending → T → Type 0
    IsAsked pending t = (is_open (face t).0 core ≡ true) × (list_any (is_its t) pending ≡ true)

    -- the later one has another face
    abbrev pub IsApart : T → T → Type 0
    IsApart t u = ((face u).0 == (face t).0) ≡ false

    -- each entry is of one of these
    abbrev pub AreOf : List T → List Pending → Type 0
    AreOf ts pending = AllByRecursion (λ (e : Pending). list_any (λ t. is_its t e) ts ≡ true) pending

    abbrev less : T → List Pending → List Pending
    less t pending = filter (λ e. not (is_its t e)) pending

    none_of_two : (t u : T) (e : Pending) → IsApart t u → is_its u e ≡ true → not (is_its t e) ≡ true
    none_of_two t u e apart its = by (e.face == (face t).0) (e.id == rid t) refl
      where
        parts : ((e.face == (face u).0) ≡ true) × ((e.id == rid u) ≡ true)
        parts = and_parts (e.face == (face u).0) (e.id == rid u) its

        by : (b c : Bool) → (e.face == (face t).0) ≡ b → not (b && c) ≡ true
        by true c same =
            let here : e.face ≡ (face t).0 = eqb-true e.face (face t).0 same in
            let there : e.face ≡ (face u).0 = eqb-true e.face (face u).0 parts.0 in
            let gap : true ≡ false = sym parts.0 ∙ ap (λ k. k == (face u).0) here ∙ ap (λ k. (face t).0 == k) (sym there ∙ here) ∙ sym (ap (λ k. k == (face t).0) (sym there ∙ here)) ∙ apart in
            absurd (cc)
        by false c same = refl

    still_there : (t u : T) → IsApart t u → (pending : List Pending) → list_any (is_its u) pending ≡ true → list_any (is_its u) (less t pending) ≡ true
    still_there t u apart [] its = absurd (false≢true its)
    still_there t u apart (e ∷ pending) its = by (is_its u e) (not (is_its t e)) refl refl its (still_there t u apart pending)
      where
        by : (b c : Bool) → is_its u e ≡ b → not (is_its t e) ≡ c → (b || list_any (is_its u) pending) ≡ true → (list_any (is_its u) pending ≡ true → list_any (is_its u) (less t pending) ≡ true) → list_any (is_its u) (cond c (e ∷ less t pending) (less t pending)) ≡ true
        by true true here kept some more = ap (λ b. b || list_any (is_its u) (less t pending)) here
        by true false here kept some more = absurd (false≢true (sym kept ∙ none_of_two t u e apart here))
        by false true here kept some more = ap (λ b. b || list_any (is_its u) (less t pending)) here ∙ more some
        by false false here kept some more = more some

    still_of : (t : T) (ts : List T) (pending : List Pending) → AreOf (t ∷ ts) pending → AreOf ts (less t pending)
    still_of t ts [] all = tt
    still_of t ts (e ∷ pending) all = by (is_its t e) all.0 (still_of t ts pending all.1)
      where
        by : (b : Bool) → (b || list_any (λ u. is_its u e) ts) ≡ true → AreOf ts (less t pending) → AreOf ts (cond (not b) (e ∷ less t pending) (less t pending))
        by true some rest = rest
        by false some rest = (some, rest)

    none_of_none : (pending : List Pending) → AreOf [] pending → pending ≡ []
    none_of_none [] all = refl
    none_of_none (e ∷ pending) all = absurd (false≢true all.0)

    some_left : (u : T) (pending : List Pending) → list_any (is_its u) pending ≡ true → is_none_left pending ≡ false
    some_left u [] its = absurd (false≢true its)
    some_left u (e ∷ pending) its = refl

    still_asked : (t : T) (ts : List T) (pending : List Pending) → AllByRecursion (IsApart t) ts → AllByRecursion (IsAsked pending) ts → AllByRecursion (IsAsked (less t pending)) ts
    still_asked t ts pending apart asked = all_both (IsApart t) (IsAsked pending) (IsAsked (less t pending)) (λ u a its. (its.0, still_there t u a pending its.1)) ts apart asked

    abbrev last : Handed
    last = sent_final (record { number = number; asker = asker; id = id; qos = qos })

    pub ends_hand : (t : T) (ts : List T) (pending : List Pending) → AllByRecursion (IsAsked pending) (t ∷ ts) → Pairwise IsApart (t ∷ ts) → AreOf (t ∷ ts) pending → handed_by (steps_from (waiting pending n) (map end_call (t ∷ ts))) ≡ last ∷ []
    ends_hand t [] pending asked apart of =
        ap (λ l. l ++ []) (last_hands core names number asker id qos last_ids requests request_ids pending (face t) (rid t) asked.0.0 asked.0.1 n (none_of_none (less t pending) (still_of t [] pending of)))
    ends_hand t (u ∷ ts) pending asked apart of =
        let rest = still_asked t (u ∷ ts) pending apart.0 asked.1 in
        let more = some_left u (less t pending) rest.0.1 in
        (λ j. end_hands core names number asker id qos last_ids requests request_ids pending (face t) (rid t) asked.0.0 asked.0.1 n more j
        ++ handed_by (steps_from (end_leaves core names number asker id qos last_ids requests request_ids pending (face t) (rid t) asked.0.0 asked.0.1 n more j) (map end_call (u ∷ ts))))
        ∙ ends_hand u ts (less t pending) rest apart.1 (still_of t (u ∷ ts) pending of)

    pub ends_leave : (t : T) (ts : List T) (pending : List Pending) → AllByRecursion (IsAsked pending) (t ∷ ts) → Pairwise IsApart (t ∷ ts) → AreOf (t ∷ ts) pending → state_after (waiting pending n) (map end_call (t ∷ ts)) ≡ settled n
    ends_leave t [] pending asked apart of =
        last_leaves core names number asker id qos last_ids requests request_ids pending (face t) (rid t) asked.0.0 asked.0.1 n (none_of_none (less t pending) (still_of t [] pending of))
    ends_leave t (u ∷ ts) pending asked apart of =
        let rest = still_asked t (u ∷ ts) pending apart.0 asked.1 in
        let more = some_left u (less t pending) rest.0.1 in
        ap (λ s. state_after s (map end_call (u ∷ ts))) (end_leaves core names number asker id qos last_ids requests request_ids pending (face t) (rid t) asked.0.0 asked.0.1 n more)
        ∙ ends_leave u ts (less t pending) rest apart.1 (still_of t (u ∷ ts) pending of)
