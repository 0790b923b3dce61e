-- What a call tells neighbours is told to open faces that listen, and of keys; so all that a call tells can be told, and is what faces hear.
use Rattle.std.proofs.Common.{◌≡◌, ◌∙◌, refl, sym, ap, subst, ℕ, Bool, true, false, cond, List, [], ◌∷◌, ◌++◌, map, filter, fold, Option, Some, None}
use Rattle.std.specs.Prelude.{◌==◌, ◌&&◌, ◌||◌}
use Rattle.std.specs.BTreeMap.{is_at}
use Rattle.std.specs.List.{AllByRecursion, flat_map, list_any}
use Rattle.std.specs.Option.{is_some, option_and_then, option_map_or}
use Rattle.std.specs.Ordering.{nat_cmp}
use Rattle.std.specs.Str.{bytes_eq}
use Rattle.std.proofs.lemmas.Bool.{false≢true}
use Rattle.std.proofs.lemmas.Slice.Eq.{bytes_eq-Decides}
use Rattle.zq_message.specs.declared.message.Region.{Region}
use Rattle.zq_message.specs.Region.{region_index}
use Rattle.zq_strategy.specs.declared.network.Telling.{Telling as TreeTelling}
use Rattle.zq_strategy.specs.Tellings.{in_order}
use Rattle.zq_strategy.specs.Kept.{has_face}
use Rattle.zq_strategy.specs.State.{HatState}
use Rattle.zq_strategy.specs.Trees.{region_keys}
use Rattle.zq_key.proofs.Lookups.{same_key}
use Rattle.zq_index.specs.Infos.{same_info}
use Rattle.zq_index.specs.Texts.{at_text, text_cmp}
use Rattle.zq_index.proofs.Orders.{text_exact, text_total}
use Rattle.zq_interests.specs.Interests.{Interests, interest_at, meets, own_keys}
use Rattle.zq_told.specs.declared.types.FaceUpdate.{FaceUpdate}
use Rattle.zq_told.specs.declared.types.Reason.TheVariants.{Update, Answer, End}
use Rattle.zq_told.specs.declared.types.ToldEntry.{ToldEntry}
use Rattle.zq_told.specs.ToldSets.{ToldSets, ToldSet, Told, at_face, told_keys}
use Rattle.zq_told.specs.Leaving.{IsMeant, changed_on, is_looked_at, news_of}
use Rattle.zq_told.specs.Telling.{KeyDue, change, declared, renewed, tell_faces, tell_keys, with_account}
use Rattle.zq_told.proofs.Meant.{tells_meant}
use Rattle.zq_tables.specs.Naming.{NamingState}
use Rattle.zq_interests.specs.declared.types.InterestEntry.{InterestEntry}
use Rattle.zq_tables.specs.declared.resolved.Resolved.{Resolved}
use Rattle.zq_message.specs.declared.message.FaceId.{FaceId}
use Rattle.zq_message.specs.declared.message.QueryableInfoType.{QueryableInfoType}
use Rattle.zq_told.proofs.Leaving.{answers_all, ends_changing}
use Rattle.zq_machine.proofs.Granted.{all_passed}
use Rattle.zq_machine.specs.Selecting.{Manner, asked_by}
use Rattle.zq_machine.specs.Messages.{Telling, answered_by, from_hat}
use Rattle.zq_machine.specs.declared.face.OpenFace.{OpenFace}
use Rattle.zq_machine.specs.Configs.{Settings}
use Rattle.zq_machine.specs.Deciding.{accepted, kept, refusal_of, renamed, told_of, causes, interests_for}
use Rattle.zq_machine.specs.Due.{asked_keys, due, due_keys as keys_due, due_touched, face_keys, heard_touched, is_met_by, listens, meant, widened, with_region_keys}
use Rattle.zq_machine.specs.Hearing.{CanBeTold, hear}
use Rattle.zq_machine.specs.Machine.{accepted_state}
use Rattle.zq_machine.specs.Neighbours.{answer_told, asked_at, asked_dues, due_on, dues_on, ended_at, ended_dues, ended_told, kept_told, looked_at, marked, near_told as told_near, with_dues}
use Rattle.zq_machine.specs.Agreeing.{stands_in}
use Rattle.zq_machine.specs.State.{Core, State, at, hat_at, hat_of, is_open}
use Rattle.zq_machine.specs.TextCalls.{TextCall, opening, hearing, unhearing}
use Rattle.zq_machine.specs.Trees.{touched}
use Rattle.zq_machine.specs.Writing.{tell}
use Rattle.zq_machine.proofs.AskedKeys.{AllAskKeys, accepted_asked, own_texts}
use Rattle.zq_machine.proofs.Agreed.{InOrder}
use Rattle.zq_machine.proofs.Agreeing.{Tied, some_of}
use Rattle.zq_machine.proofs.DueKeys.{is_among}
use Rattle.zq_machine.proofs.DueWhole.{keys_among}
use Rattle.zq_machine.proofs.Finals.{is_there}
use Rattle.zq_machine.proofs.Changing.{itself, number_test, one_number, region_there}
use Rattle.zq_machine.proofs.DueHeard.{AlongTree, AreTexts, Can, IsOpen, all_ordered, due_trees, from_can, region_texts, texts_put, touched_texts, trees_due}
use Rattle.zq_machine.proofs.Hearing.{told_heard}
use Rattle.zq_machine.proofs.NeighbourLooks.{looked_is}
use Rattle.zq_machine.proofs.Lists.{all_append, all_weaker}
use Rattle.zq_machine.proofs.Worded.{Any, Each, IsKey, IsWorded}

-- ---- what holds of each key that is looked at at a face
module _ (P : ℕ → List ℕ → Type 0) where
  abbrev Holds : FaceUpdate → Type 0
  Holds d = AllByRecursion (λ (k : KeyDue). P d.face.0 k.0) d.keys

  key_holds : (n : ℕ) (key : List ℕ) (ks : List KeyDue) → AllByRecursion (λ (k : KeyDue). P n k.0) ks → list_any (λ (k : KeyDue). bytes_eq key k.0) ks ≡ true → P n key
  key_holds n key [] all e = absurd (false≢true e)
  key_holds n key (k ∷ ks) all e = by (bytes_eq key k.0) refl (key_holds n key ks all.1) e
    where
      by : (b : Bool) → bytes_eq key k.0 ≡ b → (list_any (λ (q : KeyDue). bytes_eq key q.0) ks ≡ true → P n key) → (b || list_any (λ (q : KeyDue). bytes_eq key q.0) ks) ≡ true → P n key
      by true is more f = subst (P n) (sym ((bytes_eq-Decides key k.0).0 is)) all.0
      by false is more f = more f

  pub looked_holds : (dues : List FaceUpdate) → AllByRecursion Holds dues → (n : ℕ) (key : List ℕ) → is_looked_at dues n key ≡ true → P n key
  looked_holds [] all n key e = absurd (false≢true e)
  looked_holds (d ∷ ds) all n key e = by (n == d.face.0) refl (list_any (λ (k : KeyDue). bytes_eq key k.0) d.keys) refl (looked_holds ds all.1 n key) e
    where
      by : (b : Bool) → (n == d.face.0) ≡ b → (x : Bool) → list_any (λ (k : KeyDue). bytes_eq key k.0) d.keys ≡ x → (is_looked_at ds n key ≡ true → P n key) → ((b && x) || is_looked_at ds n key) ≡ true → P n key
      by true is true on more f = subst (λ m. P m key) (sym (one_number n d.face.0 (number_test n d.face.0 ∙ is))) (key_holds d.face.0 key d.keys all.0 on)
      by true is false on more f = more f
      by false is x on more f = more f

-- ---- numbers of a list are there
there_by : {X : Type 0} (b : Bool) (x : X) (o : Option X) → is_some o ≡ true → is_some (cond b (Some x) o) ≡ true
there_by true x o e = refl
there_by false x o e = e

each_there : {X : Type 0} (all es : List (ℕ × X)) → ((k : ℕ) → is_some (at k es) ≡ true → is_some (at k all) ≡ true) → AllByRecursion (λ (e : ℕ × X). is_some (at e.0 all) ≡ true) es
each_there all [] in_all = tt
each_there all (e ∷ es) in_all = (
  in_all e.0 (ap (λ b. is_some (cond b (Some e.1) (at e.0 es))) (itself e.0)),
  each_there all es (λ k there. in_all k (there_by (is_at (nat_cmp k) e.0) e.1 (at k es) there)),
)

-- ---- the hat that has a face is the face's
pub seat_home : (c : Core) (names : NamingState) → Tied c.faces c.hats names → (r : Region) (h : HatState) (face : ℕ) → hat_at r c.hats ≡ Some h → has_face face h ≡ true → hat_of face c ≡ Some h
seat_home c names tied r h face its has = by (at face c.faces) refl (sym (tied.seats r h face its) ∙ has)
  where
    by : (o : Option OpenFace) → at face c.faces ≡ o → option_map_or (stands_in r) o false ≡ true → option_and_then (λ (x : OpenFace). hat_at x.region c.hats) o ≡ Some h
    by None e on = absurd (false≢true on)
    by (Some o) e on =
        let there : (x : HatState) × (hat_at o.region c.hats ≡ Some x) = some_of (hat_at o.region c.hats) (tied.homes face o e) in
        there.1
        ∙ sym (region_there o.region c.hats there.0 there.1).1
        ∙ ap (λ n. at n c.hats) (one_number (region_index o.region) (region_index r) (number_test (region_index o.region) (region_index r) ∙ on))
        ∙ (region_there r c.hats h its).1

-- ---- keys that are looked at
pub keys_texts : (ks : List (List ℕ)) (hats : List (ℕ × HatState)) → AreTexts ks → Each Any IsWorded hats → AreTexts (fold with_region_keys ks hats)
keys_texts ks [] all w = all
keys_texts ks (h ∷ hats) all w = keys_texts (with_region_keys ks h) hats (texts_put ks (region_keys h.1) all (region_texts h.1 w.0.1)) w.1

heard_texts : (c : Core) → Each Any IsWorded c.hats → (t : TextCall) → refusal_of c t ≡ None → (face : ℕ) → AreTexts (heard_touched c t face)
heard_texts c w (opening o) h face = by (face == c.next_face)
  where
    by : (b : Bool) → AreTexts (cond b (keys_due c) [])
    by true = keys_texts [] c.hats tt w
    by false = tt
heard_texts c w t h face = texts_put [] (touched c t) tt (touched_texts c w t h)

some_texts : (p : List ℕ → Bool) (ks : List (List ℕ)) → AreTexts ks → AreTexts (filter p ks)
some_texts p [] all = tt
some_texts p (k ∷ ks) all = by (p k) (some_texts p ks all.1)
  where
    by : (b : Bool) → AreTexts (filter p ks) → AreTexts (cond b (k ∷ filter p ks) (filter p ks))
    by true rest = (all.0, rest)
    by false rest = rest

-- with the keys of aggregating interests
wide_texts : (face : ℕ) (ints : Interests) (ks : List (List ℕ)) → AllAskKeys ints → AreTexts ks → AreTexts (widened face ints ks)
wide_texts face ints ks asks all = texts_put ks (filter (is_met_by ks) (own_keys face ints)) all (some_texts (is_met_by ks) (own_keys face ints) (own_texts face ints asks))

looked_texts : (c : Core) → Each Any IsWorded c.hats → (ints : Interests) → AllAskKeys ints → (t : TextCall) → refusal_of c t ≡ None → (face : ℕ) → AreTexts (due_touched c ints t face)
looked_texts c w ints asks t h face = wide_texts face ints (heard_touched c t face) asks (heard_texts c w t h face)

among_text : (key : List ℕ) (ks : List (List ℕ)) → AreTexts ks → is_among key ks ≡ true → IsKey key
among_text key [] all e = absurd (false≢true e)
among_text key (k ∷ ks) all e = by (is_at (text_cmp key) k) refl e (among_text key ks all.1)
  where
    by : (b : Bool) → is_at (text_cmp key) k ≡ b → (b || is_among key ks) ≡ true → (is_among key ks ≡ true → IsKey key) → IsKey key
    by true is f more = subst IsKey (sym (same_key text_total text_exact key k is)) all.0
    by false is f more = more f

-- ---- what is told
-- it can be told, and to a face that listens on the key
pub record IsNear (names : NamingState) (c : Core) (ints : Interests) (u : TreeTelling) : Type 0 where
  pub can : Can (IsOpen names) u
  pub listens : listens c ints u.face.0 u.key ≡ true

module _ (names : NamingState) (before after : Core) (ints : Interests) (t : TextCall) where
  abbrev Near : ℕ → List ℕ → Type 0
  Near n key = (IsOpen names n × IsKey key) × (listens after ints n key ≡ true)

  near_rows : (n : ℕ) → IsOpen names n → (ks : List (List ℕ)) → AreTexts ks → AllByRecursion (λ (k : KeyDue). Near n k.0) (map (due_on after ints n) (filter (λ key. listens after ints n key) ks))
  near_rows n there [] all = tt
  near_rows n there (k ∷ ks) all = by (listens after ints n k) refl (near_rows n there ks all.1)
    where
      by : (b : Bool) → listens after ints n k ≡ b → AllByRecursion (λ (q : KeyDue). Near n q.0) (map (due_on after ints n) (filter (λ key. listens after ints n key) ks))
          → AllByRecursion (λ (q : KeyDue). Near n q.0) (map (due_on after ints n) (cond b (k ∷ filter (λ key. listens after ints n key) ks) (filter (λ key. listens after ints n key) ks)))
      by true e more = (((there, all.0), e), more)
      by false e more = more

  near_by : (m : ℕ) (ks : List KeyDue) (rest : List FaceUpdate) → AllByRecursion (λ (k : KeyDue). Near m k.0) ks → AllByRecursion (Holds Near) rest → AllByRecursion (Holds Near) (with_dues m ks ++ rest)
  near_by m [] rest all more = more
  near_by m (k ∷ ks) rest all more = (all, more)

  near_faces : ((face : ℕ) → AreTexts (due_touched before ints t face)) → (es : List (ℕ × OpenFace)) → AllByRecursion (λ (e : ℕ × OpenFace). IsOpen names e.0) es
      → AllByRecursion (Holds Near) (flat_map (λ (o : ℕ × OpenFace). with_dues o.0 (dues_on after ints (due_touched before ints t o.0) o.0)) es)
  near_faces texts [] there = tt
  near_faces texts (e ∷ es) there = near_by e.0 (dues_on after ints (due_touched before ints t e.0) e.0) _ (near_rows e.0 there.0 (due_touched before ints t e.0) (texts e.0)) (near_faces texts es there.1)

  pub near_told : ((face : ℕ) → AreTexts (due_touched before ints t face)) → AllByRecursion (λ (e : ℕ × OpenFace). IsOpen names e.0) after.faces → (kept : ToldSets) → AllByRecursion (IsNear names after ints) (kept_told before after ints t kept)
  near_told texts there kept =
      all_weaker (IsMeant kept (looked_at before after ints t)) (IsNear names after ints)
      (λ u meant. let near = looked_holds Near (looked_at before after ints t) near_all u.face.0 u.key meant.asked in record { can = near.0; listens = near.1 })
      (tell_faces Update kept (looked_at before after ints t)).tellings (tells_meant Update kept (looked_at before after ints t))
    where
      near_all : AllByRecursion (Holds Near) (looked_at before after ints t)
      near_all = subst (AllByRecursion (Holds Near)) (sym (looked_is before after ints t)) (near_faces texts after.faces there)

-- ---- what answers an interest
due_listens : (b : Bool) (heard : Option QueryableInfoType) → is_some (cond b heard None) ≡ true → b ≡ true
due_listens true heard e = refl
due_listens false heard e = absurd (false≢true e)

module _ (names : NamingState) (after : Core) (ints : Interests) (asker : ℕ) (there : IsOpen names asker) (texts : AreTexts (face_keys after ints asker)) where
  abbrev IsHeard : KeyDue → Type 0
  IsHeard k = IsKey k.0 × (listens after ints asker k.0 ≡ true)

  -- a key on which something is due is one, and the asker listens there
  owed_heard : (k : List ℕ) → is_some (due after ints asker k) ≡ true → IsHeard (due_on after ints asker k)
  owed_heard k e = (among_text k (face_keys after ints asker) texts (keys_among after ints asker k e), due_listens (listens after ints asker k) (meant after ints asker k) e)

  answer_rows : (ks : List (List ℕ)) → AllByRecursion IsHeard (filter (λ (k : KeyDue). is_some k.1) (map (due_on after ints asker) ks))
  answer_rows [] = tt
  answer_rows (k ∷ ks) = by (is_some (due after ints asker k)) refl (answer_rows ks)
    where
      rest : List KeyDue
      rest = filter (λ (q : KeyDue). is_some q.1) (map (due_on after ints asker) ks)

      by : (b : Bool) → is_some (due after ints asker k) ≡ b → AllByRecursion IsHeard rest → AllByRecursion IsHeard (cond b (due_on after ints asker k ∷ rest) rest)
      by true e more = (owed_heard k e, more)
      by false e more = more

  -- each of what is told is to the asker
  to_asker : (face : ℕ) (key : List ℕ) (ks : List KeyDue) → is_looked_at (with_dues asker ks) face key ≡ true → face ≡ asker
  to_asker face key [] e = absurd (false≢true e)
  to_asker face key (k ∷ ks) e = one_number face asker (number_test face asker ∙ by (face == asker) (list_any (λ (q : KeyDue). bytes_eq key q.0) (k ∷ ks)) e)
    where
      by : (b d : Bool) → ((b && d) || false) ≡ true → b ≡ true
      by true d x = refl
      by false d x = absurd (false≢true x)

  near_each : (ks : List KeyDue) (ears : ToldSets) (ts : List TreeTelling) → AllByRecursion IsHeard (map news_of ts) → AllByRecursion (IsMeant ears (with_dues asker ks)) ts → AllByRecursion (IsNear names after ints) ts
  near_each ks ears [] news meant = tt
  near_each ks ears (u ∷ us) news meant =
      let face = to_asker u.face.0 u.key ks meant.0.asked in
      (record { can = (subst (IsOpen names) (sym face) there, news.0.0); listens = ap (λ n. listens after ints n u.key) face ∙ news.0.1 }, near_each ks ears us news.1 meant.1)

  pub answer_near : (asked : InterestEntry) (ears : ToldSets) → AllByRecursion (IsNear names after ints) (answer_told after ints ears asker asked)
  answer_near asked ears = near_each (asked_dues after ints asker asked) ears _ (by (asked_dues after ints asker asked) (answer_rows (asked_keys after ints asker asked))) (tells_meant Answer ears (asked_at after ints asker asked))
    where
      by : (ks : List KeyDue) → AllByRecursion IsHeard (filter (λ (k : KeyDue). is_some k.1) ks) → AllByRecursion IsHeard (map news_of (tell_faces Answer ears (with_dues asker ks)).tellings)
      by [] all = tt
      by (k ∷ ks) all = of_ear (at_face asker ears)
        where
          of_ear : (o : Option ToldSet) → AllByRecursion IsHeard (map news_of (option_map_or (λ (e : ToldSet). with_account asker (tell_keys Answer asker e (k ∷ ks) []) (record { plan = []; tellings = [] })) o (record { plan = []; tellings = [] })).tellings)
          of_ear None = tt
          of_ear (Some e) = subst (AllByRecursion IsHeard) (sym (answers_all asker e (k ∷ ks))) all

  -- and so is what the end of an interest tells
  changed_heard : (told : Told) (k : List ℕ) → AllByRecursion IsHeard (map news_of (changed_on asker told (due_on after ints asker k)))
  changed_heard told k = by (at_text k told) (due after ints asker k) refl
    where
      news : (t : ToldEntry) (i : QueryableInfoType) → due after ints asker k ≡ Some i → (b : Bool) → AllByRecursion IsHeard (map news_of (cond b [] (declared asker k (record { id = t.id; info = i }) ∷ [])))
      news t i e true = tt
      news t i e false = (owed_heard k (ap is_some e), tt)

      by : (o : Option ToldEntry) (d : Option QueryableInfoType) → due after ints asker k ≡ d → AllByRecursion IsHeard (map news_of (change asker k o (option_and_then (renewed o) d)))
      by None d e = tt
      by (Some t) None e = tt
      by (Some t) (Some i) e = news t i e (same_info t.info i)

  both_heard : (xs ys : List TreeTelling) → AllByRecursion IsHeard (map news_of xs) → AllByRecursion IsHeard (map news_of ys) → AllByRecursion IsHeard (map news_of (xs ++ ys))
  both_heard [] ys a b = b
  both_heard (x ∷ xs) ys a b = (a.0, both_heard xs ys a.1 b)

  all_changed : (told : Told) (ks : List (List ℕ)) → AllByRecursion IsHeard (map news_of (flat_map (changed_on asker told) (map (due_on after ints asker) ks)))
  all_changed told [] = tt
  all_changed told (k ∷ ks) = both_heard (changed_on asker told (due_on after ints asker k)) (flat_map (changed_on asker told) (map (due_on after ints asker) ks)) (changed_heard told k) (all_changed told ks)

  pub end_near : (asked : InterestEntry) (ears : ToldSets) → AllByRecursion (IsNear names after ints) (ended_told after ints ears asker asked)
  end_near asked ears = near_each (ended_dues after ints ears asker asked) ears _ (by (filter (meets asked.key) (told_keys asker ears))) (tells_meant End ears (ended_at after ints ears asker asked))
    where
      by : (ks : List (List ℕ)) → AllByRecursion IsHeard (map news_of (tell_faces End ears (with_dues asker (map (due_on after ints asker) ks))).tellings)
      by [] = tt
      by (k ∷ ks) = of_ear (at_face asker ears)
        where
          rows : List KeyDue
          rows = map (due_on after ints asker) (k ∷ ks)

          of_ear : (o : Option ToldSet) → AllByRecursion IsHeard (map news_of (option_map_or (λ (e : ToldSet). with_account asker (tell_keys End asker e rows []) (record { plan = []; tellings = [] })) o (record { plan = []; tellings = [] })).tellings)
          of_ear None = tt
          of_ear (Some e) = subst (λ ts. AllByRecursion IsHeard (map news_of ts)) (sym (ends_changing asker e rows)) (all_changed e.told (k ∷ ks))

-- what is told in answer can be told where the rest can
answers_can : (names : NamingState) (face : FaceId) (id : ℕ) → IsOpen names face.0 → (ts : List Telling) → AllByRecursion (CanBeTold names) ts → AllByRecursion (CanBeTold names) (answered_by face id ts)
answers_can names face id there [] all = ((there, refl), tt)
answers_can names face id there (t ∷ ts) all = (all.0, answers_can names face id there ts all.1)

module _ (config : Settings) (s : State) (i : InOrder config s) (t : TextCall) (fits : refusal_of s.core t ≡ None) (j : InOrder config (accepted_state s t)) where
  open_after : AllByRecursion (λ (e : ℕ × OpenFace). IsOpen (renamed s t) e.0) (accepted s.core t).faces
  open_after =
      all_weaker (λ (e : ℕ × OpenFace). is_some (at e.0 (accepted s.core t).faces) ≡ true) (λ (e : ℕ × OpenFace). IsOpen (renamed s t) e.0) (λ e there. j.tied.named e.0 ∙ there)
      (accepted s.core t).faces (each_there (accepted s.core t).faces (accepted s.core t).faces (λ k there. there))

  -- what an accepted call tells neighbours
  abbrev pub neighbours : List TreeTelling
  neighbours = told_near s.core (accepted s.core t) (interests_for s.core t) t (kept s.core t)

  -- the face of an interest is open
  asker_open : (face : FaceId) (id : ℕ) (keys : Manner) (sd : Option Resolved) → t ≡ hearing face id keys sd → IsOpen (renamed s t) face.0
  asker_open face id keys sd is =
      j.tied.named face.0 ∙ ap (λ (x : TextCall). is_open face.0 (accepted s.core x)) is
      ∙ is_there (is_open face.0 s.core) (all_passed (causes s.core (hearing face id keys sd)) (ap (refusal_of s.core) (sym is) ∙ fits)).0

  all_texts : (face : ℕ) (ints : Interests) → AllAskKeys ints → AreTexts (face_keys (accepted s.core t) ints face)
  all_texts face ints asks = texts_put (keys_due (accepted s.core t)) (own_keys face ints) (keys_texts [] (accepted s.core t).hats tt j.worded) (own_texts face ints asks)

  near_of : (x : TextCall) → t ≡ x → AllByRecursion (IsNear (renamed s t) (accepted s.core t) (interests_for s.core x)) (told_near s.core (accepted s.core t) (interests_for s.core x) x (kept s.core x))
  near_of (hearing face id keys sd) is =
      answer_near (renamed s t) (accepted s.core t) (interests_for s.core (hearing face id keys sd)) face.0 (asker_open face id keys sd is)
      (all_texts face.0 (interests_for s.core (hearing face id keys sd)) (accepted_asked s.core (hearing face id keys sd) (ap (refusal_of s.core) (sym is) ∙ fits) i.asked)) (asked_by keys sd) s.core.ears
  near_of (unhearing face id) is = ended (interest_at face.0 id s.core.interests)
    where
      opens : IsOpen (renamed s t) face.0
      opens =
          j.tied.named face.0 ∙ ap (λ (x : TextCall). is_open face.0 (accepted s.core x)) is
          ∙ is_there (is_open face.0 s.core) (all_passed (causes s.core (unhearing face id)) (ap (refusal_of s.core) (sym is) ∙ fits)).0

      ended : (o : Option InterestEntry) → AllByRecursion (IsNear (renamed s t) (accepted s.core t) (interests_for s.core (unhearing face id))) (option_map_or (ended_told (accepted s.core t) (interests_for s.core (unhearing face id)) (kept s.core (unhearing face id)) face.0) o [])
      ended None = tt
      ended (Some asked) =
          end_near (renamed s t) (accepted s.core t) (interests_for s.core (unhearing face id)) face.0 opens
          (all_texts face.0 (interests_for s.core (unhearing face id)) (accepted_asked s.core (unhearing face id) (ap (refusal_of s.core) (sym is) ∙ fits) i.asked)) asked (kept s.core (unhearing face id))
  near_of x is = near_told (renamed s t) s.core (accepted s.core t) s.core.interests x (looked_texts s.core i.worded s.core.interests i.asked x (ap (refusal_of s.core) (sym is) ∙ fits)) open_after (kept s.core x)

  pub neighbours_near : AllByRecursion (IsNear (renamed s t) (accepted s.core t) (interests_for s.core t)) neighbours
  neighbours_near = near_of t refl

  all_can : AllByRecursion (Can (IsOpen (renamed s t))) (due_trees config s i t ++ neighbours)
  all_can =
      all_append (Can (IsOpen (renamed s t))) (due_trees config s i t) neighbours
      (all_weaker (AlongTree (IsOpen (renamed s t))) (Can (IsOpen (renamed s t))) (λ u along. along.can) (due_trees config s i t) (trees_due config s i t fits j))
      (all_weaker (IsNear (renamed s t) (accepted s.core t) (interests_for s.core t)) (Can (IsOpen (renamed s t))) (λ u near. near.can) neighbours neighbours_near)

  -- all that an accepted call tells is told of keys
  pub due_keys : AllByRecursion (λ (u : TreeTelling). IsKey u.key) (due_trees config s i t ++ neighbours)
  due_keys = all_weaker (Can (IsOpen (renamed s t))) (λ (u : TreeTelling). IsKey u.key) (λ u can. can.1) (due_trees config s i t ++ neighbours) all_can

  -- it can be told
  pub due_can : AllByRecursion (CanBeTold (renamed s t)) (told_of s.core t)
  due_can = by t refl
    where
      plain : AllByRecursion (CanBeTold (renamed s t)) (map from_hat (in_order (due_trees config s i t ++ neighbours)))
      plain = from_can (renamed s t) (in_order (due_trees config s i t ++ neighbours)) (all_ordered (Can (IsOpen (renamed s t))) [] (due_trees config s i t ++ neighbours) tt all_can)

      by : (x : TextCall) → t ≡ x → AllByRecursion (CanBeTold (renamed s t)) (marked x (map from_hat (in_order (due_trees config s i t ++ neighbours))))
      by (hearing face id keys sd) is = answers_can (renamed s t) face id (asker_open face id keys sd is) _ plain
      by x is = plain

  -- and once it is told it is what faces hear
  pub due_heard : hear (tell (accepted s.core t) (told_of s.core t) (renamed s t)).handed (renamed s t) ≡ told_of s.core t
  due_heard = told_heard (accepted s.core t) (told_of s.core t) (renamed s t) due_can
