-- What is told, message by message, and how it is taken back.
use Rattle.std.proofs.Common.{◌≡◌, ◌∙◌, ℕ, ◌==◌, Bool, true, false, true≢false, cond, not, List, [], ◌∷◌, ◌++◌, drop, fold, length, map, Option, Some, None, IfSome, refl, sym, ap, arith, append_assoc, append-nil}
use Rattle.std.specs.Prelude.{◌&&◌, ◌||◌, ◌≤◌, is_none}
use Rattle.std.specs.BTreeSet.{insert_key}
use Rattle.std.proofs.lemmas.Bool.{false≢true}
use Rattle.std.proofs.lemmas.Bool.Decides.{nat_tests}
use Rattle.std.proofs.lemmas.List.{drop-append-le}
use Rattle.std.specs.List.{All}
use Rattle.std.proofs.lemmas.List.Elements.{All-nil, All-tail}
use Rattle.std.proofs.lemmas.Map.Views.{All-insert_key}
use Rattle.std.specs.Option.{option_map_or}
use Rattle.zq_message.specs.declared.message.Mapping.TheVariants.{Receiver}
use Rattle.zq_message.specs.declared.message.QueryableInfoType.{QueryableInfoType}
use Rattle.zq_message.specs.declared.message.WireExpr.{WireExpr}
use Rattle.zq_names.specs.Texts.{nonwild}
use Rattle.zq_strategy.specs.declared.types.Telling as hat
use Rattle.zq_interests.specs.Interests.{Interests, has_keyed}
use Rattle.zq_strategy.specs.Tellings.{in_order, telling_cmp}
use Rattle.zq_tables.specs.FaceTexts.{FaceTexts, declared_key, prefix_key}
use Rattle.zq_tables.specs.declared.decl.DeclKey.{DeclKey}
use Rattle.zq_tables.proofs.IdLemmas.{without-with_id}
use Rattle.zq_tables.specs.Naming.{Names, NamingState, change_naming, face_keys, face_naming, text_at, with_told_number, without_sent}
use Rattle.zq_tables.proofs.Emptied.{changed_back, changed_idle}
use Rattle.zq_machine.specs.Handing.{Handed}
use Rattle.zq_query.proofs.Entries.{map_both}
use Rattle.zq_machine.specs.Messages.{Telling, all_told, answering, from_hat, key_ended, told_or_ended}
use Rattle.zq_machine.specs.State.{Core, at}
use Rattle.zq_machine.specs.declared.face.OpenFace.{OpenFace}
use Rattle.zq_machine.specs.Writing.{Told, and_then, is_local_face, is_local_region, may_number, numbers_region, tell, tell_body, tell_by, tell_declare, tell_number, told_key}
use Rattle.zq_egress.specs.declared.tell.InterestId.{InterestId}
use Rattle.zq_egress.specs.Telling.{KeyedAs, asked_number, behind, body_of, declare_of, end_of, ends_alone, handed_declare, handed_final, handed_number, mark_of, marked_by, told_to, untold, untold_body, untold_message}

-- ---- lists of what is told

-- messages are taken back after those behind them
pub untold-append : (hs is : List Handed) (names : NamingState) → untold (hs ++ is) names ≡ untold hs (untold is names)
untold-append [] is names = refl
untold-append (h ∷ hs) is names = ap (untold_message h.to h.message) (untold-append hs is names)

-- one thing more is told
pub tell-more : (c : Core) (ts : List Telling) (t : Telling) (names : NamingState) → tell c (ts ++ t ∷ []) names ≡ and_then (tell c ts names) (tell_body c t t.body)
tell-more c [] t names =
    let w = tell_body c t t.body names in
    ap (λ (hs : List Handed). record { handed = hs; names = w.names }) (append-nil w.handed)
tell-more c (u ∷ ts) t names =
    let first = tell_body c u u.body names in
    let rest = tell c ts first.names in
    let last = tell_body c t t.body rest.names in
    ap (λ (w : Told). record { handed = first.handed ++ w.handed; names = w.names }) (tell-more c ts t first.names)
    ∙ ap (λ (hs : List Handed). record { handed = hs; names = last.names }) (sym (append_assoc first.handed rest.handed last.handed))

-- what is told in order is of the same keys
pub all_ordered : (P : hat.Telling → Type 0) (ts : List hat.Telling) → All P ts → All P (in_order ts)
all_ordered P ts all = by [] ts (All-nil P) all
  where
    by : (us ts : List hat.Telling) → All P us → All P ts → All P (fold (insert_key telling_cmp) us ts)
    by us [] had all = had
    by us (t ∷ ts) had all = by (insert_key telling_cmp us t) ts (All-insert_key telling_cmp t P us had (all 0 t (omega arith))) (All-tail P t ts all)

-- ---- one thing that a hat tells

-- the end of an id other than 0 is told by the id alone, and numbers stay as they are
pub told_end : (c : Core) (mark : Option ℕ) (t : hat.Telling) (names : NamingState) → ends_alone t ≡ true → tell_body c (marked_by mark t) (from_hat t).body names ≡ tell_declare t.face (end_of mark t) names
told_end c mark t names alone = by t.info alone
  where
    ended : (b : Bool) → not b ≡ true → tell_body c (marked_by mark t) (key_ended t.id (cond b (Some t.key) None)) names ≡ tell_declare t.face (end_of mark t) names
    ended true alone = absurd (false≢true alone)
    ended false alone = refl

    by : (o : Option QueryableInfoType) → (is_none o && not (t.id == 0)) ≡ true → tell_body c (marked_by mark t) (told_or_ended t.id t.key o) names ≡ tell_declare t.face (end_of mark t) names
    by None alone = ended (t.id == 0) alone
    by (Some info) alone = absurd (false≢true alone)

-- all else is told of its key, whether with an information or without
told_as : (c : Core) (mark : Option ℕ) (t : hat.Telling) (names : NamingState) → ends_alone t ≡ false → tell_body c (marked_by mark t) (from_hat t).body names ≡ tell_by c t.face t.key (λ k. declare_of mark t k.wire) names
told_as c mark t names keyed = by t.info keyed
  where
    ended : (b : Bool) → not b ≡ false → tell_body c (marked_by mark t) (key_ended t.id (cond b (Some t.key) None)) names ≡ tell_by c t.face t.key (λ k. record { interest = mark; node = t.node; body = body_of t.id k.wire None }) names
    ended true keyed = refl
    ended false keyed = absurd (true≢false keyed)

    by : (o : Option QueryableInfoType) → (is_none o && not (t.id == 0)) ≡ false → tell_body c (marked_by mark t) (told_or_ended t.id t.key o) names ≡ tell_by c t.face t.key (λ k. record { interest = mark; node = t.node; body = body_of t.id k.wire o }) names
    by None keyed = ended (t.id == 0) keyed
    by (Some info) keyed = refl

-- the messages: of a number, if one is new, and of the key
abbrev pub messages_of : Option ℕ → hat.Telling → DeclKey → List Handed
messages_of mark t d = handed_number t.face (nonwild t.key) d.declared ++ handed_declare t.face (declare_of mark t d.wire) ∷ []

module _ (c : Core) (mark : Option ℕ) (t : hat.Telling) (names : NamingState) (d : DeclKey) (keyed : ends_alone t ≡ false) (key : d ≡ told_key c t.face t.key names) where
  abbrev told_by : DeclKey → Told
  told_by k = and_then (tell_number t.face t.key k.declared names) (tell_declare t.face (declare_of mark t k.wire))

  told : tell_body c (marked_by mark t) (from_hat t).body names ≡ told_by d
  told = told_as c mark t names keyed ∙ ap told_by (sym key)

  pub told_messages : (tell_body c (marked_by mark t) (from_hat t).body names).handed ≡ messages_of mark t d
  told_messages = ap (λ (w : Told). w.handed) told ∙ by d.declared
    where
      by : (o : Option ℕ) → (and_then (tell_number t.face t.key o names) (tell_declare t.face (declare_of mark t d.wire))).handed ≡ handed_number t.face (nonwild t.key) o ++ handed_declare t.face (declare_of mark t d.wire) ∷ []
      by None = refl
      by (Some id) = refl

  pub told_names : (tell_body c (marked_by mark t) (from_hat t).body names).names ≡ change_naming t.face.0 (with_told_number t.key d.declared) names
  told_names = ap (λ (w : Told). w.names) told ∙ by d.declared
    where
      by : (o : Option ℕ) → (and_then (tell_number t.face t.key o names) (tell_declare t.face (declare_of mark t d.wire))).names ≡ change_naming t.face.0 (with_told_number t.key o) names
      by None = sym (changed_idle t.face.0 (with_told_number t.key None) names refl)
      by (Some id) = refl

-- ---- whether a number may be declared

-- a local face's key is whole, and so is one without a part: neither looks at whether a number may be declared
may_cut : (n : FaceTexts) (local north wanted : Bool) (text : List ℕ) → declared_key n local (not local && asked_number north (nonwild text) wanted) text ≡ declared_key n local (north || wanted) text
may_cut n true north wanted text = refl
may_cut n false north wanted text = by (nonwild text)
  where
    by : (p : List ℕ) → prefix_key n (asked_number north p wanted) text p ≡ prefix_key n (north || wanted) text p
    by [] = refl
    by (c ∷ p) =
        let some : (length (c ∷ p) == 0) ≡ false = grind (arith, nat_tests) in
        ap (λ (b : Bool). prefix_key n (north || (not b && wanted)) text (c ∷ p)) some

-- the key is what the code asked for
pub key_is : (c : Core) (faces : List (ℕ × OpenFace)) (keyed : ℕ → List ℕ → Bool) (t : hat.Telling) (names : NamingState) (d : DeclKey) (local may : Bool) (text : List ℕ) → c.faces ≡ faces → KeyedAs keyed c.interests
    → local ≡ option_map_or (λ (o : OpenFace). is_local_region o.region) (at t.face.0 faces) false
    → may ≡ (not local && asked_number (option_map_or (λ (o : OpenFace). numbers_region o.region) (at t.face.0 faces) false) (nonwild t.key) (keyed t.face.0 (nonwild t.key)))
    → text ≡ t.key → d ≡ declared_key (face_naming t.face.0 names) local may text → d ≡ told_key c t.face t.key names
key_is c faces keyed t names d local may text same alike is_local is_may is_text is =
    let n = face_naming t.face.0 names in
    let part = nonwild t.key in
    let north = λ (fs : List (ℕ × OpenFace)). option_map_or (λ (o : OpenFace). numbers_region o.region) (at t.face.0 fs) false in
    let local_is : local ≡ is_local_face t.face c = is_local ∙ ap (λ (fs : List (ℕ × OpenFace)). option_map_or (λ (o : OpenFace). is_local_region o.region) (at t.face.0 fs) false) (sym same) in
    is
    ∙ (λ j. declared_key n local (is_may j) (is_text j))
    ∙ may_cut n local (north faces) (keyed t.face.0 part) t.key
    ∙ (λ j. declared_key n (local_is j) (north (sym same j) || alike t.face.0 part j) t.key)

-- the messages behind those that were there
pub pushed : (old a b all : List Handed) (mark : Option ℕ) (t : hat.Telling) (d : DeclKey) (part : List ℕ) (h : Handed) → a ≡ old → b ≡ a ++ handed_number t.face part d.declared → part ≡ nonwild t.key → h ≡ handed_declare t.face (declare_of mark t d.wire) → all ≡ b ++ h ∷ [] → all ≡ old ++ messages_of mark t d
pushed old a b all mark t d part h first number is_part is_key last =
    let numbers = handed_number t.face (nonwild t.key) d.declared in
    last
    ∙ ap (λ (hs : List Handed). hs ++ h ∷ []) (number ∙ ap (λ (hs : List Handed). hs ++ handed_number t.face part d.declared) first ∙ ap (λ (p : List ℕ). old ++ handed_number t.face p d.declared) is_part)
    ∙ ap (λ (x : Handed). (old ++ numbers) ++ x ∷ []) is_key
    ∙ append_assoc old numbers (handed_declare t.face (declare_of mark t d.wire) ∷ [])

-- ---- it is taken back

taken_back : (face id : ℕ) (text : List ℕ) (names : NamingState) → text_at id (face_naming face names).ours ≡ None → change_naming face (without_sent Receiver id) (change_naming face (with_told_number text (Some id)) names) ≡ names
taken_back face id text names fresh =
    let n = face_keys face names in
    changed_back face (with_told_number text (Some id)) (without_sent Receiver id) names
    (ap (λ (l : Names). record n { numbers = record n.numbers { ours = l } }) (without-with_id n.numbers.ours id (nonwild text) fresh))

-- the message of a key declares no number
key_kept : (mark : Option ℕ) (t : hat.Telling) (w : WireExpr) (names : NamingState) → untold (handed_declare t.face (declare_of mark t w) ∷ []) names ≡ names
key_kept mark t w names = by t.info
  where
    by : (o : Option QueryableInfoType) → untold_body t.face (body_of t.id w o) names ≡ names
    by None = refl
    by (Some info) = refl

pub untold_messages : (mark : Option ℕ) (t : hat.Telling) (d : DeclKey) (names : NamingState) → IfSome d.declared (λ id. text_at id (face_naming t.face.0 names).ours ≡ None) → untold (messages_of mark t d) (change_naming t.face.0 (with_told_number t.key d.declared) names) ≡ names
untold_messages mark t d names fresh = untold-append (handed_number t.face (nonwild t.key) d.declared) (handed_declare t.face (declare_of mark t d.wire) ∷ []) _ ∙ ap (untold (handed_number t.face (nonwild t.key) d.declared)) (key_kept mark t d.wire _) ∙ by d.declared fresh
  where
    by : (o : Option ℕ) → IfSome o (λ id. text_at id (face_naming t.face.0 names).ours ≡ None) → untold (handed_number t.face (nonwild t.key) o) (change_naming t.face.0 (with_told_number t.key o) names) ≡ names
    by None free = changed_idle t.face.0 (with_told_number t.key None) names refl
    by (Some id) free = taken_back t.face.0 id t.key names free

-- what is behind messages is taken back where taking it back alone leaves all as it is
pub untold_behind : (old more new : List Handed) (before after : NamingState) (first : ℕ) → first ≤ length old → new ≡ old ++ more → untold more after ≡ before → untold (drop first new) after ≡ untold (drop first old) before
untold_behind old more new before after first le is back =
    ap (λ (hs : List Handed). untold (drop first hs) after) is
    ∙ ap (λ (hs : List Handed). untold hs after) (drop-append-le first old more le)
    ∙ untold-append (drop first old) more after
    ∙ ap (untold (drop first old)) back

-- ---- an answer

-- the end of an answer declares no number
pub final_kept : (interest : Option InterestId) (names : NamingState) → untold (handed_final interest) names ≡ names
final_kept None names = refl
final_kept (Some i) names = refl

-- an answer is what is told, each marked with the interest's id, and the end of it
pub told_answer : (c : Core) (interest : Option InterestId) (ts : List hat.Telling) (old new all : List Handed) (names after : NamingState)
    → behind old (tell c (map (marked_by (mark_of interest)) ts) names) ≡ record { handed = new; names = after } → all ≡ new ++ handed_final interest
    → behind old (tell c (told_to interest (map from_hat ts)) names) ≡ record { handed = all; names = after }
told_answer c None ts old new all names after told last =
    told ∙ ap (λ (hs : List Handed). record { handed = hs; names = after }) (sym (last ∙ append-nil new))
told_answer c (Some i) ts old new all names after told last =
    let final : Telling = record { to = i.face; interest = Some i.id; node = 0; body = all_told } in
    let marked = map (answering i.id) (map from_hat ts) in
    let each : marked ≡ map (marked_by (Some i.id)) ts = map_both (answering i.id) from_hat ts in
    let w = tell c marked names in
    ap (behind old) (tell-more c marked final names)
    ∙ ap (λ (hs : List Handed). record { handed = hs; names = w.names }) (sym (append_assoc old w.handed (handed_final (Some i))))
    ∙ ap (λ (x : Told). record { handed = x.handed ++ handed_final (Some i); names = x.names }) (ap (λ (l : List Telling). behind old (tell c l names)) each ∙ told)
    ∙ ap (λ (hs : List Handed). record { handed = hs; names = after }) (sym last)
