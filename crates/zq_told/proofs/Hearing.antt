-- What a receiver keeps, by id, is what the gateway keeps of it, by key.
use Rattle.std.proofs.Common.{◌≡◌, ◌∙◌, refl, sym, ap, subst, ℕ, ◌≤◌, Bool, true, false, cond, List, Option, Some, None, true≢false, arith}
use Rattle.std.specs.Prelude.{filter, map, not, if◌then◌else◌}
use Rattle.std.specs.Option.{option_map, option_to_list}
use Rattle.std.specs.Str.{bytes_eq}
use Rattle.std.specs.Ordering.{nat_cmp}
use Rattle.std.specs.Map.{remove_entry}
use Rattle.std.specs.BTreeMap.{is_at, insert_entry}
use Rattle.std.proofs.lemmas.Cmp.{nat_cmp_total}
use Rattle.std.proofs.lemmas.Map.Entries.{option_filter}
use Rattle.zq_message.specs.declared.message.QueryableInfoType.{QueryableInfoType}
use Rattle.zq_told.specs.declared.types.ToldEntry.{ToldEntry}
use Rattle.zq_told.specs.ToldSets.{at_face}
use Rattle.zq_key.proofs.Sorted.{sorted_in, sorted_out}
use Rattle.zq_told.specs.Receiver.{Heard, Memory, Tied, heard_on, is_heard_on, is_left}
use Rattle.zq_told.proofs.Entries.{found_put, found_taken, found_filtered, sorted_left, no_entry, one_entry, same_text, text_itself, one_number, itself, is_other}

-- what was told of the key becomes this
abbrev pub put_told : List ℕ → Option ToldEntry → (List ℕ → Option ToldEntry) → List ℕ → Option ToldEntry
put_told key e told q = if bytes_eq key q then e else told q

-- what was told of keys that are not over
abbrev pub left_told : (List ℕ → Bool) → (List ℕ → Option ToldEntry) → List ℕ → Option ToldEntry
left_told over told q = if not (over q) then told q else None

abbrev IsEntry : ℕ → List ℕ × QueryableInfoType → ℕ × (List ℕ × QueryableInfoType) → Type 0
IsEntry q v e = (let x : ℕ × (List ℕ × QueryableInfoType) = (q, v) in x) ≡ e

-- the information that a face was told of a key
abbrev pub told_info : Memory → List ℕ → Option QueryableInfoType
told_info ear key = option_map (λ t. t.info) (ear.told key)

module _ (ear : Memory) (heard : Heard) (t : Tied ear heard) where
  -- a receiver keeps of a key one entry with what it was told, or none
  pub entries_are : (key : List ℕ) → filter (is_heard_on key) heard ≡ option_to_list (option_map (λ (u : ToldEntry). (u.id, (key, u.info))) (ear.told key))
  entries_are key = by (ear.told key) refl
    where
      by : (o : Option ToldEntry) → ear.told key ≡ o → filter (is_heard_on key) heard ≡ option_to_list (option_map (λ (u : ToldEntry). (u.id, (key, u.info))) o)
      by None is = no_entry (is_heard_on key) heard t.sorted (λ q v at. apart q v at (bytes_eq key v.0) refl)
        where
          apart : (q : ℕ) (v : List ℕ × QueryableInfoType) → at_face q heard ≡ Some v → (b : Bool) → bytes_eq key v.0 ≡ b → b ≡ false
          apart q v at true e =
              let there : ear.told key ≡ Some (record { id = q; info = v.1 }) = ap ear.told (same_text key v.0 e) ∙ t.back q v.0 v.1 at in
              absurd (let gap : None ≡ Some (record { id = q; info = v.1 }) = sym is ∙ there in cc)
          apart q v at false e = refl
      by (Some u) is = one_entry (is_heard_on key) (u.id, (key, u.info)) (text_itself key) heard t.sorted (t.forth key u is) one
        where
          one : (q : ℕ) (v : List ℕ × QueryableInfoType) → at_face q heard ≡ Some v → bytes_eq key v.0 ≡ true → IsEntry q v (u.id, (key, u.info))
          one q v at e =
              let text : key ≡ v.0 = same_text key v.0 e in
              let there : Some u ≡ Some (record { id = q; info = v.1 }) = sym is ∙ ap ear.told text ∙ t.back q v.0 v.1 at in
              let same : u ≡ record { id = q; info = v.1 } = let both : Some u ≡ Some (record { id = q; info = v.1 }) = there in cc in
              let back = sym same in
              let word = sym text in
              λ i. ((back i).id, (word i, (back i).info))

  pub heard_is_told : (key : List ℕ) → heard_on key heard ≡ option_to_list (told_info ear key)
  heard_is_told key = ap (map (λ e. e.1.1)) (entries_are key) ∙ by (ear.told key)
    where
      by : (o : Option ToldEntry) → map (λ (e : ℕ × (List ℕ × QueryableInfoType)). e.1.1) (option_to_list (option_map (λ (u : ToldEntry). (u.id, (key, u.info))) o)) ≡ option_to_list (option_map (λ (u : ToldEntry). u.info) o)
      by None = refl
      by (Some u) = refl

  -- ---- the receiver and the gateway after a word
  same_entry : (u : ToldEntry) (id : ℕ) (i : QueryableInfoType) → Some u ≡ Some (record { id = id; info = i }) → u.id ≡ id
  same_entry u id i e = ap (λ (x : ToldEntry). x.id) (let both : u ≡ record { id = id; info = i } = cc in both)

  -- nothing new is told
  pub tied_same : (last : ℕ) (told : List ℕ → Option ToldEntry) → ear.last ≤ last → ((q : List ℕ) → told q ≡ ear.told q) → Tied (record { last = last; told = told }) heard
  tied_same last told le same = record {
    sorted = t.sorted;
    below = λ id x at. let b : id ≤ ear.last = t.below id x at in omega (arith, b, le);
    forth = λ key u is. t.forth key u (sym (same key) ∙ is);
    back = λ id key i at. same key ∙ t.back id key i at;
  }

  module _ (key : List ℕ) where
    -- a key is told under an id that stands for no other
    module _ (last id : ℕ) (i : QueryableInfoType) (le : ear.last ≤ last) (fits : id ≤ last)
        (free : (x : List ℕ × QueryableInfoType) → at_face id heard ≡ Some x → key ≡ x.0)
        (kept : (u : ToldEntry) → ear.told key ≡ Some u → u.id ≡ id) where
      abbrev entry : Option ToldEntry
      entry = Some (record { id = id; info = i })

      put_below : (j : ℕ) (x : List ℕ × QueryableInfoType) (b : Bool) → is_at (nat_cmp id) j ≡ b → cond b (Some (key, i)) (at_face j heard) ≡ Some x → j ≤ last
      put_below j x true is at = subst (λ n. n ≤ last) (one_number id j is) fits
      put_below j x false is at = let b : j ≤ ear.last = t.below j x at in omega (arith, b, le)

      put_other : (q : List ℕ) (u : ToldEntry) (c : Bool) → bytes_eq key q ≡ false → ear.told q ≡ Some u → is_at (nat_cmp id) u.id ≡ c → cond c (Some (key, i)) (at_face u.id heard) ≡ Some (q, u.info)
      put_other q u true apart is c =
          let same : key ≡ q = free (q, u.info) (ap (λ n. at_face n heard) (one_number id u.id c) ∙ t.forth q u is) in
          absurd (true≢false (sym (text_itself key) ∙ ap (bytes_eq key) same ∙ apart))
      put_other q u false apart is c = t.forth q u is

      put_forth : (q : List ℕ) (u : ToldEntry) (b : Bool) → bytes_eq key q ≡ b → cond b entry (ear.told q) ≡ Some u → at_face u.id (insert_entry nat_cmp heard id (key, i)) ≡ Some (q, u.info)
      put_forth q u true e is =
          let same : record { id = id; info = i } ≡ u = let both : entry ≡ Some u = is in cc in
          let text : key ≡ q = same_text key q e in
          found_put id u.id (key, i) heard
          ∙ ap (λ n. cond (is_at (nat_cmp id) n) (Some (key, i)) (at_face n heard)) (ap (λ (x : ToldEntry). x.id) (sym same))
          ∙ ap (λ b. cond b (Some (key, i)) (at_face id heard)) (itself id)
          ∙ (λ j. Some (text j, (same j).info))
      put_forth q u false e is = found_put id u.id (key, i) heard ∙ put_other q u (is_at (nat_cmp id) u.id) e is refl

      put_kept : (j : ℕ) (q : List ℕ) (k : QueryableInfoType) (b : Bool) → bytes_eq key q ≡ b → is_at (nat_cmp id) j ≡ false → ear.told q ≡ Some (record { id = j; info = k }) → cond b entry (ear.told q) ≡ Some (record { id = j; info = k })
      put_kept j q k true e ne is =
          let number : j ≡ id = kept (record { id = j; info = k }) (ap ear.told (same_text key q e) ∙ is) in
          absurd (is_other id j ne (sym number))
      put_kept j q k false e ne is = is

      put_back : (j : ℕ) (q : List ℕ) (k : QueryableInfoType) (b : Bool) → is_at (nat_cmp id) j ≡ b → cond b (Some (key, i)) (at_face j heard) ≡ Some (q, k) → put_told key entry ear.told q ≡ Some (record { id = j; info = k })
      put_back j q k true is at =
          let both : (key, i) ≡ (q, k) = let some : Some (key, i) ≡ Some (q, k) = at in cc in
          let text : key ≡ q = ap (λ (x : List ℕ × QueryableInfoType). x.0) both in
          let number : id ≡ j = one_number id j is in
          ap (λ b. cond b entry (ear.told q)) (ap (bytes_eq key) (sym text) ∙ text_itself key)
          ∙ (λ h. Some (record { id = number h; info = (both h).1 }))
      put_back j q k false is at = put_kept j q k (bytes_eq key q) refl is (t.back j q k at)

      pub tied_put : Tied (record { last = last; told = put_told key entry ear.told }) (insert_entry nat_cmp heard id (key, i))
      tied_put = record {
        sorted = sorted_in nat_cmp_total heard id (key, i) t.sorted;
        below = λ j x at. put_below j x (is_at (nat_cmp id) j) refl (sym (found_put id j (key, i) heard) ∙ at);
        forth = λ q u is. put_forth q u (bytes_eq key q) refl is;
        back = λ j q k at. put_back j q k (is_at (nat_cmp id) j) refl (sym (found_put id j (key, i) heard) ∙ at);
      }

    -- a key that was told is withdrawn
    module _ (u : ToldEntry) (was : ear.told key ≡ Some u) where
      take_below : (j : ℕ) (x : List ℕ × QueryableInfoType) (b : Bool) → cond b None (at_face j heard) ≡ Some x → j ≤ ear.last
      take_below j x true at = absurd (let gap : None ≡ Some x = at in cc)
      take_below j x false at = t.below j x at

      take_other : (q : List ℕ) (v : ToldEntry) (c : Bool) → bytes_eq key q ≡ false → ear.told q ≡ Some v → is_at (nat_cmp u.id) v.id ≡ c → cond c None (at_face v.id heard) ≡ Some (q, v.info)
      take_other q v true apart is c =
          let both : Some (key, u.info) ≡ Some (q, v.info) = sym (t.forth key u was) ∙ ap (λ n. at_face n heard) (one_number u.id v.id c) ∙ t.forth q v is in
          let pair : (key, u.info) ≡ (q, v.info) = cc in
          absurd (true≢false (sym (text_itself key) ∙ ap (λ (x : List ℕ × QueryableInfoType). bytes_eq key x.0) pair ∙ apart))
      take_other q v false apart is c = t.forth q v is

      take_forth : (q : List ℕ) (v : ToldEntry) (b : Bool) → bytes_eq key q ≡ b → cond b None (ear.told q) ≡ Some v → at_face v.id (remove_entry (is_at (nat_cmp u.id)) heard) ≡ Some (q, v.info)
      take_forth q v true e is = absurd (let gap : None ≡ Some v = is in cc)
      take_forth q v false e is = found_taken u.id v.id heard t.sorted ∙ take_other q v (is_at (nat_cmp u.id) v.id) e is refl

      take_kept : (j : ℕ) (q : List ℕ) (k : QueryableInfoType) (b : Bool) → bytes_eq key q ≡ b → is_at (nat_cmp u.id) j ≡ false → ear.told q ≡ Some (record { id = j; info = k }) → cond b None (ear.told q) ≡ Some (record { id = j; info = k })
      take_kept j q k true e ne is = absurd (is_other u.id j ne (same_entry u j k (sym was ∙ ap ear.told (same_text key q e) ∙ is)))
      take_kept j q k false e ne is = is

      take_back : (j : ℕ) (q : List ℕ) (k : QueryableInfoType) (b : Bool) → is_at (nat_cmp u.id) j ≡ b → cond b None (at_face j heard) ≡ Some (q, k) → put_told key None ear.told q ≡ Some (record { id = j; info = k })
      take_back j q k true is at = absurd (let gap : None ≡ Some (q, k) = at in cc)
      take_back j q k false is at = take_kept j q k (bytes_eq key q) refl is (t.back j q k at)

      pub tied_take : Tied (record { last = ear.last; told = put_told key None ear.told }) (remove_entry (is_at (nat_cmp u.id)) heard)
      tied_take = record {
        sorted = sorted_out nat_cmp (is_at (nat_cmp u.id)) heard t.sorted;
        below = λ j x at. take_below j x (is_at (nat_cmp u.id) j) (sym (found_taken u.id j heard t.sorted) ∙ at);
        forth = λ q v is. take_forth q v (bytes_eq key q) refl is;
        back = λ j q k at. take_back j q k (is_at (nat_cmp u.id) j) refl (sym (found_taken u.id j heard t.sorted) ∙ at);
      }

  -- what is over is forgotten on both sides
  module _ (over : List ℕ → Bool) where
    abbrev passes : List ℕ × QueryableInfoType → Bool
    passes x = not (over x.0)

    kept_by : (o : Option (List ℕ × QueryableInfoType)) (x : List ℕ × QueryableInfoType) → option_filter passes o ≡ Some x → (o ≡ Some x) × (passes x ≡ true)
    kept_by None x e = absurd (let gap : None ≡ Some x = e in cc)
    kept_by (Some y) x e = by (passes y) refl e
      where
        by : (b : Bool) → passes y ≡ b → cond b (Some y) None ≡ Some x → (Some y ≡ Some x) × (passes x ≡ true)
        by true is f = (f, let same : y ≡ x = let both : Some y ≡ Some x = f in cc in ap passes (sym same) ∙ is)
        by false is f = absurd (let gap : None ≡ Some x = f in cc)

    kept_at : (id : ℕ) (x : List ℕ × QueryableInfoType) → at_face id (filter (is_left over) heard) ≡ Some x → (at_face id heard ≡ Some x) × (passes x ≡ true)
    kept_at id x at = kept_by (at_face id heard) x (sym (found_filtered passes id heard t.sorted) ∙ at)

    still_by : (q : List ℕ) (u : ToldEntry) (b : Bool) → not (over q) ≡ b → cond b (ear.told q) None ≡ Some u → at_face u.id (filter (is_left over) heard) ≡ Some (q, u.info)
    still_by q u true e is = found_filtered passes u.id heard t.sorted ∙ ap (option_filter passes) (t.forth q u is) ∙ ap (λ b. cond b (Some (q, u.info)) None) e
    still_by q u false e is = absurd (let gap : None ≡ Some u = is in cc)

    pub tied_kept : Tied (record { last = ear.last; told = left_told over ear.told }) (filter (is_left over) heard)
    tied_kept = record {
      sorted = sorted_left passes heard t.sorted;
      below = λ id x at. t.below id x (kept_at id x at).0;
      forth = λ q u is. still_by q u (not (over q)) refl is;
      back = λ id q i at. ap (λ b. cond b (ear.told q) None) (kept_at id (q, i) at).1 ∙ t.back id q i (kept_at id (q, i) at).0;
    }
