-- Keys on which nothing differs are told nothing, ids are counted, and each face is told by itself.
use Rattle.std.proofs.Common.{◌≡◌, ◌∙◌, refl, sym, ap, ℕ, ◌+◌, Bool, true, false, cond, not, List, [], ◌∷◌, ◌++◌, fold, length, map, Option, Some, None, true≢false, arith, append_assoc, eqb-true}
use Rattle.std.specs.Prelude.{◌&&◌, ◌==◌, filter, is_none}
use Rattle.std.specs.List.{AllByRecursion, flat_map}
use Rattle.std.specs.List.Sorted.{IsStrictlySortedBy}
use Rattle.std.specs.Ordering.{is_eq, nat_cmp}
use Rattle.std.specs.declared.cmp.Ordering.TheVariants.{Less}
use Rattle.std.specs.Map.{set_value}
use Rattle.std.specs.BTreeMap.{is_at}
use Rattle.std.proofs.lemmas.Cmp.{nat_cmp_total}
use Rattle.std.proofs.lemmas.List.Sums.{fold-append}
use Rattle.std.proofs.lemmas.Map.Keys.{sorted_head, sorted_tail}
use Rattle.std.proofs.lemmas.Map.Lookups.{exact_unsigned}
use Rattle.zq_key.proofs.Lookups.{either_way, found_after_write}
use Rattle.std.specs.Option.{is_some, option_map, option_map_or}
use Rattle.std.proofs.lemmas.List.{append-nil}
use Rattle.zq_message.specs.declared.message.QueryableInfoType.{QueryableInfoType}
use Rattle.zq_index.specs.Infos.{same_info}
use Rattle.zq_index.specs.Texts.{at_text}
use Rattle.zq_strategy.specs.declared.network.Telling.{Telling}
use Rattle.zq_strategy.specs.Tellings.{same_infos}
use Rattle.zq_told.specs.declared.types.ToldEntry.{ToldEntry}
use Rattle.zq_told.specs.declared.types.Reason.{Reason}
use Rattle.zq_told.specs.declared.types.Reason.TheVariants.{Update, Answer, End}
use Rattle.zq_told.specs.declared.types.FaceUpdate.{FaceUpdate}
use Rattle.zq_told.specs.declared.types.FacePlan.{FacePlan}
use Rattle.zq_told.specs.declared.types.Planned.{Planned}
use Rattle.zq_told.specs.declared.plan.Account.{Account}
use Rattle.zq_told.specs.ToldSets.{ToldSet, ToldSets, Told, at_face}
use Rattle.zq_told.specs.Telling.{KeyDue, declared, planned_ear, put_face, put_row, entry_for, last_for, tell_face, tell_key, tell_keys, tellings_for, with_account}
use Rattle.zq_told.proofs.Entries.{one_number}
use Rattle.zq_told.specs.Laws.{CountsIds, LooksUp, TellsDifference, TellsEach, differs, ear_after, is_to, keys_for, takes_id, told_alone, told_in}

-- ---- a key on which nothing differs
true_of : (b : Bool) → not b ≡ false → b ≡ true
true_of true e = refl
true_of false e = absurd (true≢false e)

quiet_by : (n : ℕ) (key : List ℕ) (last : ℕ) (old : Option ToldEntry) (due : Option QueryableInfoType) → not (same_infos (option_map (λ (t : ToldEntry). t.info) old) due) ≡ false
    → (last_for last old (entry_for Update last old due) ≡ last) × (tellings_for Update n key old (entry_for Update last old due) ≡ [])
quiet_by n key last None None e = (refl, refl)
quiet_by n key last None (Some i) e = absurd (true≢false e)
quiet_by n key last (Some t) None e = absurd (true≢false e)
quiet_by n key last (Some t) (Some i) e = (refl, ap (λ b. cond b [] (declared n key (record { id = t.id; info = i }) ∷ [])) (true_of (same_info t.info i) e))

module _ (n : ℕ) (told : Told) where
  -- accounts that say the same, whichever rows they have
  record Alike (a b : Account) : Type 0 where
    last : a.last ≡ b.last
    tellings : a.tellings ≡ b.tellings

  alike_step : (k : KeyDue) (a b : Account) → Alike a b → Alike (tell_key Update n told a k) (tell_key Update n told b k)
  alike_step k a b s = record {
    last = ap (λ l. last_for l (at_text k.0 told) (entry_for Update l (at_text k.0 told) k.1)) s.last;
    tellings = λ i. s.tellings i ++ tellings_for Update n k.0 (at_text k.0 told) (entry_for Update (s.last i) (at_text k.0 told) k.1);
  }

  alike_quiet : (k : KeyDue) (a b : Account) → differs told k ≡ false → Alike a b → Alike (tell_key Update n told a k) b
  alike_quiet k a b e s =
      let quiet = quiet_by n k.0 a.last (at_text k.0 told) k.1 e in
      record { last = quiet.0 ∙ s.last; tellings = ap (λ ts. a.tellings ++ ts) quiet.1 ∙ append-nil a.tellings ∙ s.tellings }

  alike_by : (k : KeyDue) (ks : List KeyDue) (a b : Account) (x : Bool) → differs told k ≡ x → Alike a b
      → ((c d : Account) → Alike c d → Alike (fold (tell_key Update n told) c ks) (fold (tell_key Update n told) d (filter (differs told) ks)))
      → Alike (fold (tell_key Update n told) (tell_key Update n told a k) ks) (fold (tell_key Update n told) b (cond x (k ∷ filter (differs told) ks) (filter (differs told) ks)))
  alike_by k ks a b true is s more = more (tell_key Update n told a k) (tell_key Update n told b k) (alike_step k a b s)
  alike_by k ks a b false is s more = more (tell_key Update n told a k) b (alike_quiet k a b is s)

  alike_all : (ks : List KeyDue) (a b : Account) → Alike a b → Alike (fold (tell_key Update n told) a ks) (fold (tell_key Update n told) b (filter (differs told) ks))
  alike_all [] a b s = s
  alike_all (k ∷ ks) a b s = alike_by k ks a b (differs told k) refl s (λ c d x. alike_all ks c d x)

pub tells_difference : TellsDifference
tells_difference n ear keys =
    let first : Account = record { last = ear.last; rows = []; tellings = [] } in
    let s = alike_all n ear.told keys first first (record { last = refl; tellings = refl }) in
    (s.tellings, s.last)

-- ---- ids are counted
count_by : (way : Reason) (told : Told) (k : KeyDue) (last : ℕ) (old : Option ToldEntry) (due : Option QueryableInfoType) → at_text k.0 told ≡ old → k.1 ≡ due
    → last_for last old (entry_for way last old due) ≡ last + cond (takes_id way told k) 1 0
count_by Update told k last None None a b = (let e : last ≡ last + 0 = omega arith in e) ∙ (λ i. last + cond (is_none (sym a i) && is_some (sym b i)) 1 0)
count_by Update told k last None (Some x) a b = λ i. last + cond (is_none (sym a i) && is_some (sym b i)) 1 0
count_by Update told k last (Some t) None a b = (let e : last ≡ last + 0 = omega arith in e) ∙ (λ i. last + cond (is_none (sym a i) && is_some (sym b i)) 1 0)
count_by Update told k last (Some t) (Some x) a b = (let e : last ≡ last + 0 = omega arith in e) ∙ (λ i. last + cond (is_none (sym a i) && is_some (sym b i)) 1 0)
count_by Answer told k last None None a b = (let e : last ≡ last + 0 = omega arith in e) ∙ (λ i. last + cond (is_none (sym a i) && is_some (sym b i)) 1 0)
count_by Answer told k last None (Some x) a b = λ i. last + cond (is_none (sym a i) && is_some (sym b i)) 1 0
count_by Answer told k last (Some t) None a b = (let e : last ≡ last + 0 = omega arith in e) ∙ (λ i. last + cond (is_none (sym a i) && is_some (sym b i)) 1 0)
count_by Answer told k last (Some t) (Some x) a b = (let e : last ≡ last + 0 = omega arith in e) ∙ (λ i. last + cond (is_none (sym a i) && is_some (sym b i)) 1 0)
count_by End told k last None None a b = omega arith
count_by End told k last None (Some x) a b = omega arith
count_by End told k last (Some t) None a b = omega arith
count_by End told k last (Some t) (Some x) a b = omega arith

length_by : (b : Bool) (k : KeyDue) (ks : List KeyDue) → cond b 1 0 + length ks ≡ length (cond b (k ∷ ks) ks)
length_by true k ks = omega arith
length_by false k ks = omega arith

pub counted : (way : Reason) (n : ℕ) (told : Told) (ks : List KeyDue) (a : Account) → (fold (tell_key way n told) a ks).last ≡ a.last + length (filter (takes_id way told) ks)
counted way n told [] a = let e : a.last ≡ a.last + 0 = omega arith in e
counted way n told (k ∷ ks) a =
    let l : List KeyDue = filter (takes_id way told) ks in
    let one = cond (takes_id way told k) 1 0 in
    counted way n told ks (tell_key way n told a k)
    ∙ ap (λ x. x + length l) (count_by way told k a.last (at_text k.0 told) k.1 refl refl)
    ∙ (let e : (a.last + one) + length l ≡ a.last + (one + length l) = omega arith in e)
    ∙ ap (λ x. a.last + x) (length_by (takes_id way told k) k l)

pub counts_ids : CountsIds
counts_ids way n ear keys = counted way n ear.told keys (record { last = ear.last; rows = []; tellings = [] })

-- ---- each face by itself
module _ (n : ℕ) where
  abbrev none : List Telling
  none = []

  sent_by : (t : Telling) (ts us : List Telling) (b : Bool) → filter (is_to n) (ts ++ us) ≡ filter (is_to n) ts ++ filter (is_to n) us → cond b (t ∷ filter (is_to n) (ts ++ us)) (filter (is_to n) (ts ++ us)) ≡ cond b (t ∷ filter (is_to n) ts) (filter (is_to n) ts) ++ filter (is_to n) us
  sent_by t ts us true ih = ap (λ l. t ∷ l) ih
  sent_by t ts us false ih = ih

  sent_append : (ts us : List Telling) → filter (is_to n) (ts ++ us) ≡ filter (is_to n) ts ++ filter (is_to n) us
  sent_append [] us = refl
  sent_append (t ∷ ts) us = sent_by t ts us (is_to n t) (sent_append ts us)

  -- what is told on a key is to its face
  none_by : (b : Bool) → none ≡ cond b none none
  none_by true = refl
  none_by false = refl

  news_by : (m : ℕ) (key : List ℕ) (e : ToldEntry) (x b : Bool) → (n == m) ≡ b → filter (is_to n) (cond x [] (declared m key e ∷ [])) ≡ cond b (cond x [] (declared m key e ∷ [])) []
  news_by m key e true b is = none_by b
  news_by m key e false true is = ap (λ b. cond b (declared m key e ∷ []) []) is
  news_by m key e false false is = ap (λ b. cond b (declared m key e ∷ []) []) is

  key_sent : (way : Reason) (m : ℕ) (key : List ℕ) (old new : Option ToldEntry) → filter (is_to n) (tellings_for way m key old new) ≡ cond (n == m) (tellings_for way m key old new) []
  key_sent Update m key None None = none_by (n == m)
  key_sent Update m key (Some t) None = refl
  key_sent Update m key None (Some e) = refl
  key_sent Update m key (Some t) (Some e) = news_by m key e (same_info t.info e.info) (n == m) refl
  key_sent Answer m key old None = none_by (n == m)
  key_sent Answer m key old (Some e) = refl
  key_sent End m key None new = none_by (n == m)
  key_sent End m key (Some t) None = none_by (n == m)
  key_sent End m key (Some t) (Some e) = news_by m key e (same_info t.info e.info) (n == m) refl

  joined_by : (b : Bool) (ts us : List Telling) → cond b ts [] ++ cond b us [] ≡ cond b (ts ++ us) []
  joined_by true ts us = refl
  joined_by false ts us = refl

  module _ (way : Reason) (m : ℕ) (told : Told) where
    -- an account behind what others are told
    abbrev behind : List Telling → Account → Account
    behind before a = record { last = a.last; rows = a.rows; tellings = before ++ a.tellings }

    pub behind_all : (ks : List KeyDue) (before : List Telling) (a b : Account) → b ≡ behind before a → fold (tell_key way m told) b ks ≡ behind before (fold (tell_key way m told) a ks)
    behind_all [] before a b e = e
    behind_all (k ∷ ks) before a b e =
        let ts : List Telling = tellings_for way m k.0 (at_text k.0 told) (entry_for way a.last (at_text k.0 told) k.1) in
        let join = append_assoc before a.tellings ts in
        behind_all ks before (tell_key way m told a k) (tell_key way m told b k)
        (ap (λ (x : Account). tell_key way m told x k) e ∙ (λ i. record { last = (tell_key way m told a k).last; rows = (tell_key way m told a k).rows; tellings = join i }))

    sent_all : (ks : List KeyDue) (a : Account) → filter (is_to n) a.tellings ≡ cond (n == m) a.tellings [] → filter (is_to n) (fold (tell_key way m told) a ks).tellings ≡ cond (n == m) (fold (tell_key way m told) a ks).tellings []
    sent_all [] a e = e
    sent_all (k ∷ ks) a e =
        let ts : List Telling = tellings_for way m k.0 (at_text k.0 told) (entry_for way a.last (at_text k.0 told) k.1) in
        sent_all ks (tell_key way m told a k)
        (sent_append a.tellings ts ∙ (λ i. e i ++ key_sent way m k.0 (at_text k.0 told) (entry_for way a.last (at_text k.0 told) k.1) i) ∙ joined_by (n == m) a.tellings ts)

  module _ (way : Reason) (ears : ToldSets) where
    alone_by : (m : ℕ) (keys : List KeyDue) (o : Option ToldSet) (b : Bool) → (n == m) ≡ b → cond b (option_map_or (λ (e : ToldSet). told_in way m e keys) o []) [] ≡ cond b (option_map_or (λ (e : ToldSet). told_in way n e keys) o []) []
    alone_by m keys o true is = let same : n ≡ m = eqb-true n m is in ap (λ j. option_map_or (λ (e : ToldSet). told_in way j e keys) o []) (sym same)
    alone_by m keys o false is = refl

    look_by : (m : ℕ) (keys : List KeyDue) (b : Bool) → (n == m) ≡ b → cond b (option_map_or (λ (e : ToldSet). told_in way n e keys) (at_face m ears) []) [] ≡ cond b (option_map_or (λ (e : ToldSet). told_in way n e keys) (at_face n ears) []) []
    look_by m keys true is = ap (λ j. option_map_or (λ (e : ToldSet). told_in way n e keys) (at_face j ears) []) (sym (eqb-true n m is))
    look_by m keys false is = refl

    face_by : (p : Planned) (d : FaceUpdate) (o : Option ToldSet) → filter (is_to n) (option_map_or (λ (e : ToldSet). with_account d.face.0 (tell_keys way d.face.0 e d.keys p.tellings) p) o p).tellings ≡ filter (is_to n) p.tellings ++ cond (n == d.face.0) (option_map_or (λ (e : ToldSet). told_in way d.face.0 e d.keys) o []) []
    face_by p d None = sym (ap (λ l. filter (is_to n) p.tellings ++ l) (sym (none_by (n == d.face.0))) ∙ append-nil (filter (is_to n) p.tellings))
    face_by p d (Some e) =
        let first : Account = record { last = e.last; rows = []; tellings = [] } in
        let start : Account = record { last = e.last; rows = []; tellings = p.tellings } in
        ap (λ (x : Account). filter (is_to n) x.tellings) (behind_all way d.face.0 e.told d.keys p.tellings first start (λ i. record { last = e.last; rows = []; tellings = sym (append-nil p.tellings) i }))
        ∙ sent_append p.tellings (told_in way d.face.0 e d.keys)
        ∙ ap (λ l. filter (is_to n) p.tellings ++ l) (sent_all way d.face.0 e.told d.keys first (none_by (n == d.face.0)))

    face_sent : (p : Planned) (d : FaceUpdate) → filter (is_to n) (tell_face way ears p d).tellings ≡ filter (is_to n) p.tellings ++ told_alone way ears n d
    face_sent p d =
        face_by p d (at_face d.face.0 ears)
        ∙ ap (λ l. filter (is_to n) p.tellings ++ l) (alone_by d.face.0 d.keys (at_face d.face.0 ears) (n == d.face.0) refl ∙ look_by d.face.0 d.keys (n == d.face.0) refl)

    faces_sent : (dues : List FaceUpdate) (p : Planned) → filter (is_to n) (fold (tell_face way ears) p dues).tellings ≡ filter (is_to n) p.tellings ++ flat_map (told_alone way ears n) dues
    faces_sent [] p = sym (append-nil (filter (is_to n) p.tellings))
    faces_sent (d ∷ ds) p =
        faces_sent ds (tell_face way ears p d)
        ∙ ap (λ l. l ++ flat_map (told_alone way ears n) ds) (face_sent p d)
        ∙ append_assoc (filter (is_to n) p.tellings) (told_alone way ears n d) (flat_map (told_alone way ears n) ds)

-- ---- what was told of each face after the call
module _ (way : Reason) (ears : ToldSets) where
  abbrev put : List FacePlan → ToldSets
  put plan = fold put_face ears plan

  abbrev numbers : List FaceUpdate → List ℕ
  numbers dues = map (λ (d : FaceUpdate). d.face.0) dues

  -- a face that was not told yet stands as it stood
  abbrev IsFresh : Planned → FaceUpdate → Type 0
  IsFresh p d = at_face d.face.0 (put p.plan) ≡ at_face d.face.0 ears

  abbrev plan_of : Planned → FaceUpdate → ToldSet → FacePlan
  plan_of p d e = record { face = record { 0 = d.face.0 }; last = (tell_keys way d.face.0 e d.keys p.tellings).last; rows = (tell_keys way d.face.0 e d.keys p.tellings).rows }

  ear_is : (p : Planned) (d : FaceUpdate) (e : ToldSet) → planned_ear (plan_of p d e) e ≡ ear_after way d.face.0 e d.keys
  ear_is p d e =
      let first : Account = record { last = e.last; rows = []; tellings = [] } in
      let start : Account = record { last = e.last; rows = []; tellings = p.tellings } in
      ap (λ (x : Account). (let y : ToldSet = record { last = x.last; told = fold put_row e.told x.rows } in y))
      (behind_all 0 way d.face.0 e.told d.keys p.tellings first start (λ i. record { last = e.last; rows = []; tellings = sym (append-nil p.tellings) i }))

  -- a face's plan is put
  put_by : (p : Planned) (d : FaceUpdate) (e : ToldSet) → at_face d.face.0 (put p.plan) ≡ Some e → (q : ℕ)
      → at_face q (put (p.plan ++ plan_of p d e ∷ [])) ≡ cond (is_at (nat_cmp d.face.0) q) (Some (ear_after way d.face.0 e d.keys)) (at_face q (put p.plan))
  put_by p d e there q =
      ap (at_face q) (fold-append put_face ears p.plan (plan_of p d e ∷ []))
      ∙ ap (λ o. at_face q (option_map_or (λ (x : ToldSet). set_value (is_at (nat_cmp d.face.0)) (put p.plan) (planned_ear (plan_of p d e) x)) o (put p.plan))) there
      ∙ found_after_write nat_cmp_total exact_unsigned d.face.0 q (planned_ear (plan_of p d e) e) (put p.plan) (ap is_some there)
      ∙ ap (λ x. cond (is_at (nat_cmp d.face.0) q) (Some x) (at_face q (put p.plan))) (ear_is p d e)

  next_by : (p : Planned) (d : FaceUpdate) (o : Option ToldSet) → at_face d.face.0 (put p.plan) ≡ o → (q : ℕ)
      → at_face q (put (option_map_or (λ (e : ToldSet). with_account d.face.0 (tell_keys way d.face.0 e d.keys p.tellings) p) o p).plan) ≡ cond (is_at (nat_cmp d.face.0) q) (option_map (λ (e : ToldSet). ear_after way d.face.0 e d.keys) o) (at_face q (put p.plan))
  next_by p d None there q = same (is_at (nat_cmp d.face.0) q) refl
    where
      same : (b : Bool) → is_at (nat_cmp d.face.0) q ≡ b → at_face q (put p.plan) ≡ cond b None (at_face q (put p.plan))
      same true is = ap (λ j. at_face j (put p.plan)) (sym (one_number d.face.0 q is)) ∙ there
      same false is = refl
  next_by p d (Some e) there q = put_by p d e there q

  next_found : (p : Planned) (d : FaceUpdate) → IsFresh p d → (q : ℕ)
      → at_face q (put (tell_face way ears p d).plan) ≡ cond (is_at (nat_cmp d.face.0) q) (option_map (λ (e : ToldSet). ear_after way d.face.0 e d.keys) (at_face d.face.0 ears)) (at_face q (put p.plan))
  next_found p d f q = next_by p d (at_face d.face.0 ears) f q

  fresh_all : (p : Planned) (d : FaceUpdate) (ds : List FaceUpdate) → IsFresh p d → AllByRecursion (λ q. nat_cmp d.face.0 q ≡ Less) (numbers ds) → AllByRecursion (IsFresh p) ds → AllByRecursion (IsFresh (tell_face way ears p d)) ds
  fresh_all p d [] f above all = tt
  fresh_all p d (x ∷ ds) f above all = (
    next_found p d f x.face.0
        ∙ ap (λ b. cond b (option_map (λ (e : ToldSet). ear_after way d.face.0 e d.keys) (at_face d.face.0 ears)) (at_face x.face.0 (put p.plan))) (ap is_eq above.0)
        ∙ all.0,
    fresh_all p d ds f above.1 all.1,
  )

  keys_above : (n : ℕ) (ds : List FaceUpdate) → AllByRecursion (λ q. nat_cmp n q ≡ Less) (numbers ds) → keys_for n ds ≡ None
  keys_above n [] above = refl
  keys_above n (d ∷ ds) above = ap (λ r. cond (is_eq r) (Some d.keys) (keys_for n ds)) above.0 ∙ keys_above n ds above.1

  after_by : (d : FaceUpdate) (ds : List FaceUpdate) (n : ℕ) (x : Option ToldSet) (b : Bool) → is_at (nat_cmp d.face.0) n ≡ b → AllByRecursion (λ q. nat_cmp d.face.0 q ≡ Less) (numbers ds)
      → option_map_or (λ keys. option_map (λ (e : ToldSet). ear_after way n e keys) (at_face n ears)) (keys_for n ds) (cond b (option_map (λ (e : ToldSet). ear_after way d.face.0 e d.keys) (at_face d.face.0 ears)) x)
      ≡ option_map_or (λ keys. option_map (λ (e : ToldSet). ear_after way n e keys) (at_face n ears)) (cond b (Some d.keys) (keys_for n ds)) x
  after_by d ds n x true is above =
      let same : d.face.0 ≡ n = one_number d.face.0 n is in
      ap (λ o. option_map_or (λ keys. option_map (λ (e : ToldSet). ear_after way n e keys) (at_face n ears)) o (option_map (λ (e : ToldSet). ear_after way d.face.0 e d.keys) (at_face d.face.0 ears))) (ap (λ j. keys_for j ds) (sym same) ∙ keys_above d.face.0 ds above)
      ∙ ap (λ j. option_map (λ (e : ToldSet). ear_after way j e d.keys) (at_face j ears)) same
  after_by d ds n x false is above = refl

  after_all : (ds : List FaceUpdate) (p : Planned) (n : ℕ) → IsStrictlySortedBy nat_cmp (numbers ds) → AllByRecursion (IsFresh p) ds
      → at_face n (put (fold (tell_face way ears) p ds).plan) ≡ option_map_or (λ keys. option_map (λ (e : ToldSet). ear_after way n e keys) (at_face n ears)) (keys_for n ds) (at_face n (put p.plan))
  after_all [] p n sorted all = refl
  after_all (d ∷ ds) p n sorted all =
      let above = sorted_head nat_cmp d.face.0 (numbers ds) sorted in
      after_all ds (tell_face way ears p d) n (sorted_tail nat_cmp d.face.0 (numbers ds) sorted) (fresh_all p d ds all.0 above all.1)
      ∙ ap (option_map_or (λ keys. option_map (λ (e : ToldSet). ear_after way n e keys) (at_face n ears)) (keys_for n ds)) (next_found p d all.0 n)
      ∙ after_by d ds n (at_face n (put p.plan)) (is_at (nat_cmp d.face.0) n) refl above
      ∙ ap (λ b. option_map_or (λ keys. option_map (λ (e : ToldSet). ear_after way n e keys) (at_face n ears)) (cond b (Some d.keys) (keys_for n ds)) (at_face n (put p.plan))) (either_way nat_cmp_total exact_unsigned d.face.0 n)

  fresh_first : (ds : List FaceUpdate) → AllByRecursion (IsFresh (record { plan = []; tellings = [] })) ds
  fresh_first [] = tt
  fresh_first (d ∷ ds) = (refl, fresh_first ds)

pub looks_up : LooksUp
looks_up way ears dues sorted n = after_all way ears dues (record { plan = []; tellings = [] }) n sorted (fresh_first way ears dues)

pub tells_each : TellsEach
tells_each way ears dues n = faces_sent n way ears dues (record { plan = []; tellings = [] })
