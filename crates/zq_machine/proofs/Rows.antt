-- The keys of routers' entries among what stands for keys: what is read, written, told and heard reads only what stands at faces.
use Rattle.std.proofs.Common.{◌≡◌, ◌∙◌, refl, sym, ap, ℕ, List, [], ◌∷◌, ◌++◌, fold, Option, Some, None}
use Rattle.std.specs.BTreeMap.{is_at}
use Rattle.std.specs.BTreeSet.{insert_key}
use Rattle.std.specs.Set.{remove_key}
use Rattle.zq_message.specs.declared.message.Declare.{Declare}
use Rattle.zq_message.specs.declared.message.DeclareBody.{DeclareBody}
use Rattle.zq_message.specs.declared.message.DeclareBody.TheVariants as body
use Rattle.zq_message.specs.declared.message.FaceId.{FaceId}
use Rattle.zq_message.specs.declared.message.Message.{Message}
use Rattle.zq_message.specs.declared.message.Message.TheVariants as message
use Rattle.zq_names.specs.Texts.{nonwild, text_cmp}
use Rattle.zq_tables.specs.declared.decl.DeclKey.{DeclKey}
use Rattle.zq_tables.specs.Naming.{EntryRows, FaceKeys, NamingState, change_naming, face_naming, naming_at, plain, put_naming, row_at, with_entry_key, with_row, with_rows, with_told_number, without_entry_key}
use Rattle.zq_machine.specs.declared.call.Call.{Call}
use Rattle.zq_machine.specs.declared.call.Call.TheVariants as call
use Rattle.zq_machine.specs.Handing.{Handed}
use Rattle.zq_machine.specs.Hearing.{body_says, hear, hear_by, heard_body, telling_by, with_heard}
use Rattle.zq_machine.specs.Messages.{Telling, TellingBody, TextMessage, all_told, key_ended, key_told, text_final, text_reply, text_request}
use Rattle.zq_machine.specs.State.{Core, State}
use Rattle.zq_machine.specs.TextCalls.{read}
use Rattle.zq_machine.specs.Writing.{Told, and_then, tell, tell_body, tell_declare, tell_number, told_key, write, written}
use Rattle.zq_machine.proofs.Telling.{told_keeps}

-- ---- what stands at a face is changed
pub changed_rows : (face : ℕ) (g : FaceKeys → FaceKeys) (rows : EntryRows) (names : NamingState) → change_naming face g (with_rows rows names) ≡ with_rows rows (change_naming face g names)
changed_rows face g rows names = by (naming_at face names)
  where
    by : (o : Option FaceKeys) → put_naming face g (with_rows rows names) o ≡ with_rows rows (put_naming face g names o)
    by None = refl
    by (Some n) = refl

-- the keys of entries stay
pub rows_changed : (face : ℕ) (g : FaceKeys → FaceKeys) (names : NamingState) → (change_naming face g names).rows ≡ names.rows
rows_changed face g names = by (naming_at face names)
  where
    by : (o : Option FaceKeys) → (put_naming face g names o).rows ≡ names.rows
    by None = refl
    by (Some n) = refl

-- ---- what is read, written and heard
pub read_rows : (rows : EntryRows) (s : State) (c : Call) → read (record s { names = with_rows rows s.names }) c ≡ read s c
read_rows rows s (call.UndeclareQueryable face id None node) = refl
read_rows rows s (call.UndeclareQueryable face id (Some wire) node) = refl
read_rows rows s c = refl

pub written_rows : (rows : EntryRows) (names : NamingState) (m : TextMessage) → written (with_rows rows names) m ≡ written names m
written_rows rows names (text_request r) = refl
written_rows rows names (text_reply r) = refl
written_rows rows names (text_final f) = refl

pub write_rows : (rows : EntryRows) (names : NamingState) (ms : List TextMessage) → write (with_rows rows names) ms ≡ write names ms
write_rows rows names [] = refl
write_rows rows names (m ∷ ms) = λ i. written_rows rows names m i ∷ write_rows rows names ms i

module _ (rows : EntryRows) (hs : List Handed) (rest : (names : NamingState) → hear hs (with_rows rows names) ≡ hear hs names) (to : FaceId) (names : NamingState) where
  body_heard : (b : DeclareBody) → hear hs (heard_body to b (with_rows rows names)) ≡ hear hs (heard_body to b names)
  body_heard (body.DeclareKeyExpr id w) = ap (hear hs) (changed_rows to.0 (with_heard id w.suffix) rows names) ∙ rest (change_naming to.0 (with_heard id w.suffix) names)
  body_heard (body.UndeclareKeyExpr id) = rest names
  body_heard (body.DeclareQueryable id w info) = rest names
  body_heard (body.UndeclareQueryable id w) = rest names
  body_heard body.DeclareFinal = rest names

  message_heard : (m : Message) → hear_by to m (with_rows rows names) (hear hs) ≡ hear_by to m names (hear hs)
  message_heard (message.Declare d) = ap (λ ts. telling_by to d (body_says (face_naming to.0 names) d.body) ++ ts) (body_heard d.body)
  message_heard (message.Request r) = rest names
  message_heard (message.Response r) = rest names
  message_heard (message.ResponseFinal f) = rest names
  message_heard (message.Interest i) = rest names
  message_heard (message.InterestFinal i) = rest names

pub hear_rows : (rows : EntryRows) (hs : List Handed) (names : NamingState) → hear hs (with_rows rows names) ≡ hear hs names
hear_rows rows [] names = refl
hear_rows rows (h ∷ hs) names = message_heard rows hs (hear_rows rows hs) h.to names h.message

-- ---- what is told
-- the same is handed, and the keys of entries are these
abbrev pub told_with : EntryRows → Told → Told
told_with rows w = record w { names = with_rows rows w.names }

module _ (rows : EntryRows) (names : NamingState) where
  number_rows : (to : FaceId) (text : List ℕ) (o : Option ℕ) → tell_number to text o (with_rows rows names) ≡ told_with rows (tell_number to text o names)
  number_rows to text None = refl
  number_rows to text (Some id) =
      ap (tell_declare to (record { interest = None; node = 0; body = body.DeclareKeyExpr id (plain (nonwild text)) })) (changed_rows to.0 (with_told_number text (Some id)) rows names)

  by_key : (to : FaceId) (text : List ℕ) (o : Option ℕ) (d : Declare) → and_then (tell_number to text o (with_rows rows names)) (tell_declare to d) ≡ told_with rows (and_then (tell_number to text o names) (tell_declare to d))
  by_key to text o d = ap (λ w. and_then w (tell_declare to d)) (number_rows to text o)

  body_rows : (c : Core) (t : Telling) (b : TellingBody) → tell_body c t b (with_rows rows names) ≡ told_with rows (tell_body c t b names)
  body_rows c t (key_told id text info) =
      let k : DeclKey = told_key c t.to text names in
      by_key t.to text k.declared (record { interest = t.interest; node = t.node; body = body.DeclareQueryable id k.wire info })
  body_rows c t (key_ended id None) = refl
  body_rows c t (key_ended id (Some text)) =
      let k : DeclKey = told_key c t.to text names in
      by_key t.to text k.declared (record { interest = t.interest; node = t.node; body = body.UndeclareQueryable id (Some k.wire) })
  body_rows c t all_told = refl

pub tell_rows : (c : Core) (ts : List Telling) (rows : EntryRows) (names : NamingState) → tell c ts (with_rows rows names) ≡ told_with rows (tell c ts names)
tell_rows c [] rows names = refl
tell_rows c (t ∷ ts) rows names =
    let w : Told = tell_body c t t.body names in
    let rest : tell c ts (with_rows rows w.names) ≡ told_with rows (tell c ts w.names) = tell_rows c ts rows w.names in
    ap (λ x. and_then x (tell c ts)) (body_rows rows names c t t.body)
    ∙ ap (λ (x : Told). record x { handed = w.handed ++ x.handed }) rest

pub tell_handed : (c : Core) (ts : List Telling) (rows : EntryRows) (names : NamingState) → (tell c ts (with_rows rows names)).handed ≡ (tell c ts names).handed
tell_handed c ts rows names = ap (λ (w : Told). w.handed) (tell_rows c ts rows names)

pub tell_names : (c : Core) (ts : List Telling) (rows : EntryRows) (names : NamingState) → (tell c ts (with_rows rows names)).names ≡ with_rows rows (tell c ts names).names
tell_names c ts rows names = ap (λ (w : Told). w.names) (tell_rows c ts rows names)

-- what is told leaves the keys of entries
pub rows_told : (c : Core) (ts : List Telling) (names : NamingState) → (tell c ts names).names.rows ≡ names.rows
rows_told c ts names = told_keeps (λ n. n.rows ≡ names.rows) (λ face text id n same. rows_changed face (with_told_number text (Some id)) n ∙ same) c ts names refl

-- ---- keys of entries that come or go once something was told
module _ (c : Core) (ts : List Telling) where
  pub told_rows : (g : EntryRows → EntryRows) (names : NamingState) → with_rows (g (tell c ts names).names.rows) (tell c ts names).names ≡ (tell c ts (with_rows (g names.rows) names)).names
  told_rows g names = ap (λ rows. with_rows (g rows) (tell c ts names).names) (rows_told c ts names) ∙ sym (tell_names c ts (g names.rows) names)

  module _ (region : ℕ) where
    pub told_with_key : (key : List ℕ) (names : NamingState) → with_entry_key region key (tell c ts names).names ≡ (tell c ts (with_entry_key region key names)).names
    told_with_key key names = told_rows (λ rows. with_row region (insert_key text_cmp (row_at region rows) key) rows) names

    pub told_without_key : (key : List ℕ) (names : NamingState) → without_entry_key region key (tell c ts names).names ≡ (tell c ts (without_entry_key region key names)).names
    told_without_key key names = told_rows (λ rows. with_row region (remove_key (is_at (text_cmp key)) (row_at region rows)) rows) names

    -- one after the other
    abbrev pub without_keys : NamingState → List (List ℕ) → NamingState
    without_keys names keys = fold (λ n key. without_entry_key region key n) names keys

    pub told_without_keys : (keys : List (List ℕ)) (names : NamingState) → without_keys (tell c ts names).names keys ≡ (tell c ts (without_keys names keys)).names
    told_without_keys [] names = refl
    told_without_keys (key ∷ keys) names = ap (λ n. without_keys n keys) (told_without_key key names) ∙ told_without_keys keys (without_entry_key region key names)
