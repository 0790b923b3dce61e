-- What is told moves with its texts.
use Rattle.std.proofs.Common.{◌≡◌, ◌∙◌, refl, sym, ap, ℕ, Bool, true, false, cond, List, [], ◌∷◌, ◌++◌, fold, map, Option, Some, None}
use Rattle.std.specs.Prelude.{◌||◌}
use Rattle.std.specs.List.{list_any}
use Rattle.std.specs.Option.{option_and_then, option_map, option_map_or}
use Rattle.std.specs.Ordering.{is_eq, match_ordering, nat_cmp}
use Rattle.std.specs.declared.cmp.Ordering.{Ordering}
use Rattle.std.specs.declared.cmp.Ordering.TheVariants.{Less, Equal, Greater}
use Rattle.std.specs.Map.{remove_entry}
use Rattle.std.specs.BTreeMap.{insert_entry, is_at}
use Rattle.std.proofs.lemmas.List.{map-append}
use Rattle.std.proofs.lemmas.Map.Made.{lookup-map_values}
use Rattle.zq_index.specs.Infos.{same_info}
use Rattle.zq_index.specs.Texts.{at_text, text_cmp}
use Rattle.zq_told.specs.declared.types.ToldEntry.{ToldEntry}
use Rattle.zq_told.specs.declared.types.Reason.{Reason}
use Rattle.zq_told.specs.declared.types.Reason.TheVariants.{Update, Answer, End}
use Rattle.zq_told.specs.declared.types.FaceUpdate.{FaceUpdate}
use Rattle.zq_told.specs.declared.types.FacePlan.{FacePlan}
use Rattle.zq_told.specs.declared.types.Planned.{Planned}
use Rattle.zq_told.specs.declared.plan.Account.{Account}
use Rattle.zq_told.specs.ToldSets.{ToldSet, ToldSets, Told, at_face, last_at, told_at}
use Rattle.zq_told.specs.Telling.{KeyDue, Row, declared, entry_for, is_above, noted, planned_ear, put_face, put_plan, put_row, tell_face, tell_faces, tell_key, tell_keys, tellings_for, with_account}
use Rattle.zq_told.specs.Leaving.{fresh_ear}
use Rattle.zq_told.specs.Moved.{KeepsTexts, TellsAlike, move_dues, move_ear, move_ears, move_plan, move_planned, move_telling, move_text}
use Rattle.zq_index.proofs.Mapped.{change-map, insert-map, remove-map}

module _ (φ : List ℕ → List ℕ) (keeps : KeepsTexts φ) where
  abbrev moved : {X : Type 0} → List (List ℕ × X) → List (List ℕ × X)
  moved es = map (move_text φ) es

  -- ---- entries by text
  found : {X : Type 0} (key : List ℕ) (es : List (List ℕ × X)) → at_text (φ key) (moved es) ≡ at_text key es
  found key [] = refl
  found key (e ∷ es) = λ i. cond (is_eq (keeps key e.0 i)) (Some e.1) (found key es i)

  put_by : {X : Type 0} (key : List ℕ) (v : X) (e : List ℕ × X) (es : List (List ℕ × X)) (r : Ordering) → insert_entry text_cmp (moved es) (φ key) v ≡ moved (insert_entry text_cmp es key v)
      → match_ordering r ((φ key, v) ∷ move_text φ e ∷ moved es) ((φ e.0, v) ∷ moved es) (move_text φ e ∷ insert_entry text_cmp (moved es) (φ key) v)
      ≡ moved (match_ordering r ((key, v) ∷ e ∷ es) ((e.0, v) ∷ es) (e ∷ insert_entry text_cmp es key v))
  put_by key v e es Less more = refl
  put_by key v e es Equal more = refl
  put_by key v e es Greater more = ap (λ l. move_text φ e ∷ l) more

  put : {X : Type 0} (key : List ℕ) (v : X) (es : List (List ℕ × X)) → insert_entry text_cmp (moved es) (φ key) v ≡ moved (insert_entry text_cmp es key v)
  put key v [] = refl
  put key v (e ∷ es) =
      ap (λ r. match_ordering r ((φ key, v) ∷ move_text φ e ∷ moved es) ((φ e.0, v) ∷ moved es) (move_text φ e ∷ insert_entry text_cmp (moved es) (φ key) v)) (keeps key e.0)
      ∙ put_by key v e es (text_cmp key e.0) (put key v es)

  taken_by : {X : Type 0} (key : List ℕ) (e : List ℕ × X) (es : List (List ℕ × X)) (b : Bool) → remove_entry (is_at (text_cmp (φ key))) (moved es) ≡ moved (remove_entry (is_at (text_cmp key)) es)
      → cond b (moved es) (move_text φ e ∷ remove_entry (is_at (text_cmp (φ key))) (moved es)) ≡ moved (cond b es (e ∷ remove_entry (is_at (text_cmp key)) es))
  taken_by key e es true more = refl
  taken_by key e es false more = ap (λ l. move_text φ e ∷ l) more

  taken : {X : Type 0} (key : List ℕ) (es : List (List ℕ × X)) → remove_entry (is_at (text_cmp (φ key))) (moved es) ≡ moved (remove_entry (is_at (text_cmp key)) es)
  taken key [] = refl
  taken key (e ∷ es) =
      ap (λ r. cond (is_eq r) (moved es) (move_text φ e ∷ remove_entry (is_at (text_cmp (φ key))) (moved es))) (keeps key e.0)
      ∙ taken_by key e es (is_at (text_cmp key) e.0) (taken key es)

  row_moved : (told : Told) (key : List ℕ) (o : Option ToldEntry) → put_row (moved told) (φ key, o) ≡ moved (put_row told (key, o))
  row_moved told key None = taken key told
  row_moved told key (Some e) = put key e told

  rows_moved : (rows : List Row) (told : Told) → fold put_row (moved told) (moved rows) ≡ moved (fold put_row told rows)
  rows_moved [] told = refl
  rows_moved (r ∷ rows) told = ap (λ t. fold put_row t (moved rows)) (row_moved told r.0 r.1) ∙ rows_moved rows (put_row told r)

  -- ---- one key
  change_by : (n : ℕ) (key : List ℕ) (e : ToldEntry) (b : Bool) → cond b [] (declared n (φ key) e ∷ []) ≡ map (move_telling φ) (cond b [] (declared n key e ∷ []))
  change_by n key e true = refl
  change_by n key e false = refl

  words_moved : (way : Reason) (n : ℕ) (key : List ℕ) (old new : Option ToldEntry) → tellings_for way n (φ key) old new ≡ map (move_telling φ) (tellings_for way n key old new)
  words_moved Update n key None None = refl
  words_moved Update n key (Some t) None = refl
  words_moved Update n key None (Some e) = refl
  words_moved Update n key (Some t) (Some e) = change_by n key e (same_info t.info e.info)
  words_moved Answer n key old None = refl
  words_moved Answer n key old (Some e) = refl
  words_moved End n key None new = refl
  words_moved End n key (Some t) None = refl
  words_moved End n key (Some t) (Some e) = change_by n key e (same_info t.info e.info)

  abbrev move_account : Account → Account
  move_account a = record { last = a.last; rows = moved a.rows; tellings = map (move_telling φ) a.tellings }

  module _ (way : Reason) (n : ℕ) (told : Told) where
    noted_moved : (a : Account) (key : List ℕ) (old new : Option ToldEntry) → noted way n (φ key) old new (move_account a) ≡ move_account (noted way n key old new a)
    noted_moved a key old new =
        let rows = sym (map-append (move_text φ) a.rows ((key, new) ∷ [])) in
        let words = ap (λ l. map (move_telling φ) a.tellings ++ l) (words_moved way n key old new) ∙ sym (map-append (move_telling φ) a.tellings (tellings_for way n key old new)) in
        λ i. record { last = (noted way n key old new a).last; rows = rows i; tellings = words i }

    key_moved : (a : Account) (k : KeyDue) → tell_key way n (moved told) (move_account a) (move_text φ k) ≡ move_account (tell_key way n told a k)
    key_moved a k =
        ap (λ o. noted way n (φ k.0) o (entry_for way a.last o k.1) (move_account a)) (found k.0 told)
        ∙ noted_moved a k.0 (at_text k.0 told) (entry_for way a.last (at_text k.0 told) k.1)

    keys_moved : (ks : List KeyDue) (a : Account) → fold (tell_key way n (moved told)) (move_account a) (moved ks) ≡ move_account (fold (tell_key way n told) a ks)
    keys_moved [] a = refl
    keys_moved (k ∷ ks) a = ap (λ b. fold (tell_key way n (moved told)) b (moved ks)) (key_moved a k) ∙ keys_moved ks (tell_key way n told a k)

  -- ---- faces
  module _ (way : Reason) (ears : ToldSets) where
    face_by : (p : Planned) (d : FaceUpdate) (o : Option ToldSet)
        → option_map_or (λ (e : ToldSet). with_account d.face.0 (tell_keys way d.face.0 e (moved d.keys) (map (move_telling φ) p.tellings)) (move_planned φ p)) (option_map (move_ear φ) o) (move_planned φ p)
        ≡ move_planned φ (option_map_or (λ (e : ToldSet). with_account d.face.0 (tell_keys way d.face.0 e d.keys p.tellings) p) o p)
    face_by p d None = refl
    face_by p d (Some e) =
        let a : Account = tell_keys way d.face.0 e d.keys p.tellings in
        let left : FacePlan = record { face = record { 0 = d.face.0 }; last = a.last; rows = a.rows } in
        let plan = sym (map-append (move_plan φ) p.plan (left ∷ [])) in
        ap (λ (x : Account). with_account d.face.0 x (move_planned φ p)) (keys_moved way d.face.0 e.told d.keys (record { last = e.last; rows = []; tellings = p.tellings }))
        ∙ (λ i. record { plan = plan i; tellings = map (move_telling φ) a.tellings })

    face_moved : (p : Planned) (d : FaceUpdate) → tell_face way (move_ears φ ears) (move_planned φ p) (move_dues φ d) ≡ move_planned φ (tell_face way ears p d)
    face_moved p d =
        ap (λ o. option_map_or (λ (e : ToldSet). with_account d.face.0 (tell_keys way d.face.0 e (moved d.keys) (map (move_telling φ) p.tellings)) (move_planned φ p)) o (move_planned φ p)) (lookup-map_values (move_ear φ) (is_at (nat_cmp d.face.0)) ears)
        ∙ face_by p d (at_face d.face.0 ears)

    faces_moved : (ds : List FaceUpdate) (p : Planned) → fold (tell_face way (move_ears φ ears)) (move_planned φ p) (map (move_dues φ) ds) ≡ move_planned φ (fold (tell_face way ears) p ds)
    faces_moved [] p = refl
    faces_moved (d ∷ ds) p = ap (λ q. fold (tell_face way (move_ears φ ears)) q (map (move_dues φ) ds)) (face_moved p d) ∙ faces_moved ds (tell_face way ears p d)

  tells : (way : Reason) (ears : ToldSets) (dues : List FaceUpdate) → tell_faces way (move_ears φ ears) (map (move_dues φ) dues) ≡ move_planned φ (tell_faces way ears dues)
  tells way ears dues = faces_moved way ears dues (record { plan = []; tellings = [] })

  lacks_moved : (plan : List FacePlan) → list_any is_above (map (move_plan φ) plan) ≡ list_any is_above plan
  lacks_moved [] = refl
  lacks_moved (p ∷ plan) = ap (λ b. is_above p || b) (lacks_moved plan)

  planned_moved : (p : FacePlan) (e : ToldSet) → planned_ear (move_plan φ p) (move_ear φ e) ≡ move_ear φ (planned_ear p e)
  planned_moved p e = let rows = rows_moved p.rows e.told in λ i. record { last = p.last; told = rows i }

  puts : (plan : List FacePlan) (ears : ToldSets) → put_plan (map (move_plan φ) plan) (move_ears φ ears) ≡ move_ears φ (put_plan plan ears)
  puts [] ears = refl
  puts (p ∷ plan) ears =
      ap (put_plan (map (move_plan φ) plan)) (change-map (move_ear φ) (is_at (nat_cmp p.face.0)) (planned_ear (move_plan φ p)) (planned_ear p) (planned_moved p) ears)
      ∙ puts plan (put_face ears p)

  -- ---- what is found
  finds_by : (key : List ℕ) (o : Option ToldSet) → option_and_then (λ (e : ToldSet). at_text (φ key) e.told) (option_map (move_ear φ) o) ≡ option_and_then (λ (e : ToldSet). at_text key e.told) o
  finds_by key None = refl
  finds_by key (Some e) = found key e.told

  finds : (n : ℕ) (key : List ℕ) (ears : ToldSets) → told_at n (φ key) (move_ears φ ears) ≡ told_at n key ears
  finds n key ears = ap (option_and_then (λ (e : ToldSet). at_text (φ key) e.told)) (lookup-map_values (move_ear φ) (is_at (nat_cmp n)) ears) ∙ finds_by key (at_face n ears)

  counts_by : (o : Option ToldSet) → option_map (λ (e : ToldSet). e.last) (option_map (move_ear φ) o) ≡ option_map (λ (e : ToldSet). e.last) o
  counts_by None = refl
  counts_by (Some e) = refl

  counts : (n : ℕ) (ears : ToldSets) → last_at n (move_ears φ ears) ≡ last_at n ears
  counts n ears = ap (option_map (λ (e : ToldSet). e.last)) (lookup-map_values (move_ear φ) (is_at (nat_cmp n)) ears) ∙ counts_by (at_face n ears)

  pub tells_alike : TellsAlike φ
  tells_alike = record {
    tells = tells;
    lacks = λ way ears dues. ap (λ (p : Planned). list_any is_above p.plan) (tells way ears dues) ∙ lacks_moved (tell_faces way ears dues).plan;
    puts = puts;
    leaves = λ way ears dues. ap (λ (p : Planned). put_plan p.plan (move_ears φ ears)) (tells way ears dues) ∙ puts (tell_faces way ears dues).plan ears;
    opens = λ n last ears. insert-map (move_ear φ) nat_cmp ears n (fresh_ear last);
    closes = λ n ears. remove-map (move_ear φ) (is_at (nat_cmp n)) ears;
    finds = finds;
    counts = counts;
  }
