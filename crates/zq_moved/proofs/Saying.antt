-- The messages of requests, in a run whose faces are all in one namespace or in none: what each face reads is what was decided, without the namespace; and which requests do not leave.
use Rattle.std.proofs.Common.{◌≡◌, ◌∙◌, refl, sym, ap, subst, ℕ, ◌<◌, Bool, true, false, cond, List, [], ◌∷◌, ◌++◌, length, map, Option, Some, None, ◌⊎◌, inl, inr, arith, eqb-true}
use Rattle.std.specs.Prelude.{◌==◌, ◌&&◌, is_some, unwrap_or}
use Rattle.std.specs.List.{AllByRecursion}
use Rattle.std.specs.Option.{option_map}
use Rattle.std.proofs.Math.Bool.{and-false}
use Rattle.std.proofs.lemmas.Bool.{false≢true}
use Rattle.zq_key.specs.Key.{is_chunk, is_key}
use Rattle.zq_message.specs.declared.message.Message.{Message}
use Rattle.zq_message.specs.declared.message.Message.TheVariants as message
use Rattle.zq_message.specs.declared.message.WireExpr.{WireExpr}
use Rattle.zq_namespace.specs.Denied.{denies, is_denied, space_leaves as out_of}
use Rattle.zq_namespace.specs.Entry.{is_error}
use Rattle.zq_namespace.specs.Exit.{wire_out}
use Rattle.zq_namespace.specs.Leaves.{ExitState, gives, response_with}
use Rattle.zq_tables.specs.declared.resolved.Resolved.TheVariants as said
use Rattle.zq_tables.specs.Naming.{FaceKeys, FaceNaming, NamingState, best, face_keys, naming_at, no_keys, plain, read_by}
use Rattle.zq_tables.proofs.Reading.{best-reads}
use Rattle.zq_machine.specs.Gates.{Gates, gate_at, leaves_by, through, unasked_by}
use Rattle.zq_machine.specs.Handing.{Handed}
use Rattle.zq_machine.specs.Messages.{TextMessage, TextReply, TextRequest, text_final, text_reply, text_request}
use Rattle.zq_machine.specs.Moved.{move_message, move_suffix}
use Rattle.zq_machine.specs.Writing.{Place, final_message, reply_message, request_message, sent_final, sent_reply, sent_request, write}
use Rattle.zq_moved.specs.Received.{in_full, knows, message_in_full}
use Rattle.zq_moved.proofs.Lower.{key_some, nothing_given}
use Rattle.zq_moved.proofs.Fits.{shift}
use Rattle.zq_moved.proofs.Passing.{FaceFits, Hears, exit_of, goes_out, hears_mine, hears_nothing, hears_other, leaves_is}
use Rattle.zq_moved.proofs.Telling.{Ready, same_face, shift_by, shift_some, shifts}

-- ---- what is said to a face
-- the message by the whole text
abbrev pub full_message : TextMessage → Message
full_message (text_request r) = message.Request (record { id = r.id; wire = plain r.text; target = r.target; timeout = r.timeout; node = r.node; qos = r.qos; payload = r.payload })
full_message (text_reply r) = reply_message r
full_message (text_final f) = final_message f

-- the face that a message goes to
abbrev pub goes_to : TextMessage → ℕ
goes_to (text_request r) = r.to.0
goes_to (text_reply r) = r.to.0
goes_to (text_final f) = f.asker.0

-- a message does not leave to a face where it is a request that is denied there
abbrev pub stays_in : (ℕ → Bool) → TextMessage → Bool
stays_in denied (text_request r) = denied r.to.0
stays_in denied (text_reply r) = false
stays_in denied (text_final f) = false

-- what is said to a face, and then more
abbrev pub said_to : ℕ → (ℕ → Bool) → List TextMessage → List Message → List Message
said_to q denied [] rs = rs
said_to q denied (m ∷ ms) rs = cond (goes_to m == q) (cond (stays_in denied m) (said_to q denied ms rs) (full_message m ∷ said_to q denied ms rs)) (said_to q denied ms rs)

-- where a request that is denied would have been
abbrev pub denied_at : (ℕ → Bool) → TextMessage → List Place
denied_at denied (text_request r) = cond (denied r.to.0) ((r.to.0, r.id) ∷ []) []
denied_at denied (text_reply r) = []
denied_at denied (text_final f) = []

-- all of these
abbrev pub all_denied : (ℕ → Bool) → List TextMessage → List Place
all_denied denied [] = []
all_denied denied (m ∷ ms) = denied_at denied m ++ all_denied denied ms

-- a text is a key, or none where an error is replied
abbrev pub IsReplyText : TextReply → Type 0
IsReplyText r = (is_key r.text ≡ true) ⊎ ((r.text ≡ []) × (is_error r.payload ≡ true))

-- a message goes to an open face and says a key; and a request is denied there by the run's own texts as `denied` says
abbrev pub CanBeSaid : NamingState → Gates → List ℕ → (ℕ → Bool) → TextMessage → Type 0
CanBeSaid names gates text denied (text_request r) = (is_key r.text ≡ true) × (is_some (naming_at r.to.0 names) ≡ true) × (is_denied (unasked_by (gate_at r.to.0 gates)) text ≡ denied r.to.0)
CanBeSaid names gates text denied (text_reply r) = IsReplyText r × (is_some (naming_at r.to.0 names) ≡ true)
CanBeSaid names gates text denied (text_final f) = Unit {0}

moved_suffix : (φ : List ℕ → List ℕ) (t : List ℕ) → is_key t ≡ true → move_suffix φ t ≡ φ t
unfolding is_key is_chunk
moved_suffix φ [] key = absurd (false≢true key)
moved_suffix φ (b ∷ t) key = refl

plain_reads : (n : FaceNaming) (t : List ℕ) → 0 < length t → read_by n (plain t) ≡ said.Full t
plain_reads n [] h = absurd (omega (arith, h))
plain_reads n (b ∷ t) h = refl

zero_not : (n : ℕ) → 0 < n → (n == 0) ≡ false
zero_not n l = by (n == 0) refl
  where
    by : (b : Bool) → (n == 0) ≡ b → b ≡ false
    by true e = let none : n ≡ 0 = eqb-true n 0 e in absurd (omega (arith, l, none))
    by false e = refl

abbrev request_by : TextRequest → WireExpr → Message
request_by r w = message.Request (record { id = r.id; wire = w; target = r.target; timeout = r.timeout; node = r.node; qos = r.qos; payload = r.payload })

abbrev reply_by : TextReply → WireExpr → Message
reply_by r w = message.Response (record { rid = r.id; wire = w; qos = r.qos; payload = r.payload; responder = r.responder })

module _ (q : ℕ) (o : Option (List ℕ)) (text : List ℕ) (names : NamingState) (gates : Gates) (known : FaceNaming) (ready : Ready o (naming_at q names) (gate_at q gates) known) where
  -- ---- a message with an expression leaves, where it is not denied
  pub record Says (m full : Message) : Type 0 where
    pub left : Message
    pub leaves : out_of (exit_of (gate_at q gates)) m ≡ Some left
    pub reads : message_in_full known left ≡ Some full
    pub quiet : knows known left ≡ known

  open_says : (k : FaceKeys) → naming_at q names ≡ Some k → (f : WireExpr → Message) (w : WireExpr) (t : List ℕ)
      → ((e : ExitState) → out_of (Some e) (f w) ≡ option_map f (wire_out e.ns e.heads w)) → ((v : WireExpr) → message_in_full known (f v) ≡ Some (f (in_full known v))) → ((v : WireExpr) → knows known (f v) ≡ known)
      → is_key t ≡ true → read_by k.numbers w ≡ said.Full (shift_by o t) → Says (f w) (f (plain t))
  open_says k there f w t goes full quiet key says =
      let shifted : said.Full (shift_by o t) ≡ said.Full (shift (exit_of (gate_at q gates)) t) = ap said.Full (sym (shifts (gate_at q gates) o t (ready.space (ap is_some there)))) in
      let g = goes_out (exit_of (gate_at q gates)) k.numbers known (subst (λ x. FaceFits x (gate_at q gates) known) there ready.fits) f w t (λ e has. goes e) key (says ∙ shifted) in
      record { left = f g.wire; leaves = g.leaves; reads = full g.wire ∙ ap (λ v. Some (f v)) g.reads; quiet = quiet g.wire }

  pub request_says : (r : TextRequest) → is_key r.text ≡ true → is_some (naming_at q names) ≡ true
      → Says (request_message (face_keys q names) (record r { text = move_suffix (shift_by o) r.text })) (full_message (text_request r))
  request_says r key there = by (naming_at q names) refl
    where
      by : (x : Option FaceKeys) → naming_at q names ≡ x → Says (request_message (face_keys q names) (record r { text = move_suffix (shift_by o) r.text })) (full_message (text_request r))
      by None none = absurd (false≢true (sym (ap is_some none) ∙ there))
      by (Some k) is =
          let same : face_keys q names ≡ k = ap (λ (x : Option FaceKeys). unwrap_or x no_keys) is in
          let text_is : move_suffix (shift_by o) r.text ≡ shift_by o r.text = moved_suffix (shift_by o) r.text key in
          subst (λ w. Says (request_by r w) (full_message (text_request r))) (λ j. best (sym same j).numbers (sym text_is j))
          (open_says k is (request_by r) (best k.numbers (shift_by o r.text)) r.text (λ e. refl) (λ v. refl) (λ v. refl) key (best-reads k.numbers (shift_by o r.text) (shift_some o r.text (key_some r.text key))))

  -- an error that is on no key leaves as it is
  bare_says : (r : TextReply) → r.text ≡ [] → is_error r.payload ≡ true → Says (reply_message (record r { text = move_suffix (shift_by o) r.text })) (reply_message r)
  bare_says r none error =
      subst (λ u. Says (reply_message (record r { text = move_suffix (shift_by o) u })) (reply_message (record r { text = u }))) (sym none)
      (record { left = reply_message (record r { text = [] }); leaves = by (exit_of (gate_at q gates)); reads = refl; quiet = refl })
    where
      by : (x : Option ExitState) → out_of x (reply_message (record r { text = [] })) ≡ Some (reply_message (record r { text = [] }))
      by None = refl
      by (Some e) = ap (λ b. cond (b && true) (Some (reply_message (record r { text = [] }))) (option_map (response_with (record { rid = r.id; wire = plain []; qos = r.qos; payload = r.payload; responder = r.responder })) (wire_out e.ns e.heads (plain [])))) error

  reply_says : (r : TextReply) → IsReplyText r → is_some (naming_at q names) ≡ true → Says (reply_message (record r { text = move_suffix (shift_by o) r.text })) (reply_message r)
  reply_says r (inl key) there = by (naming_at q names) refl
    where
      written_out : (e : ExitState) (l : ℕ) → length (shift_by o r.text) ≡ l → (l == 0) ≡ false → out_of (Some e) (reply_by r (plain (shift_by o r.text))) ≡ option_map (reply_by r) (wire_out e.ns e.heads (plain (shift_by o r.text)))
      written_out e l is some =
          ap (λ b. cond b (Some (reply_by r (plain (shift_by o r.text)))) (option_map (reply_by r) (wire_out e.ns e.heads (plain (shift_by o r.text))))) (ap (λ b. is_error r.payload && (true && b)) (ap (λ n. n == 0) is ∙ some) ∙ and-false (is_error r.payload))

      by : (x : Option FaceKeys) → naming_at q names ≡ x → Says (reply_message (record r { text = move_suffix (shift_by o) r.text })) (reply_message r)
      by None none = absurd (false≢true (sym (ap is_some none) ∙ there))
      by (Some k) is =
          let text_is : move_suffix (shift_by o) r.text ≡ shift_by o r.text = moved_suffix (shift_by o) r.text key in
          let some : 0 < length (shift_by o r.text) = shift_some o r.text (key_some r.text key) in
          subst (λ u. Says (reply_by r (plain u)) (reply_message r)) (sym text_is)
          (open_says k is (reply_by r) (plain (shift_by o r.text)) r.text (λ e. written_out e (length (shift_by o r.text)) refl (zero_not (length (shift_by o r.text)) some)) (λ v. refl) (λ v. refl) key (plain_reads k.numbers (shift_by o r.text) some))
  reply_says r (inr error) there = bare_says r error.0 error.1

  -- ---- a message that is handed
  -- to the face, where it leaves
  said_mine : (h : Handed) (full : Message) (hs : List Handed) (keys : Option FaceKeys) (rs : List Message) → (h.to.0 == q) ≡ true → denies (unasked_by (gate_at q gates)) text h.message ≡ false → Says h.message full
      → Hears q text hs gates known keys rs → Hears q text (h ∷ hs) gates known keys (full ∷ rs)
  said_mine h full hs keys rs mine free s rest =
      hears_mine q text h hs gates known keys s.left full rs mine
      (ap (λ f. leaves_by (gate_at f gates) text h.message) (same_face h.to.0 q mine) ∙ leaves_is (gate_at q gates) text h.message ∙ ap (λ b. cond b None (out_of (exit_of (gate_at q gates)) h.message)) free ∙ s.leaves)
      s.reads s.quiet rest

  -- to another
  said_other : (h : Handed) (hs : List Handed) (keys : Option FaceKeys) (rs : List Message) → (h.to.0 == q) ≡ false → gives h.message ≡ false → Hears q text hs gates known keys rs → Hears q text (h ∷ hs) gates known keys rs
  said_other h hs keys rs other gave rest =
      hears_other q text h hs gates known keys rs other (subst (λ g. Hears q text hs g known keys rs) (sym (nothing_given (through text gates h) gates gave)) rest)

  -- a request to the face that is denied there
  said_nothing : (n : FaceKeys) (r : TextRequest) (hs : List Handed) (keys : Option FaceKeys) (rs : List Message) → (r.to.0 == q) ≡ true → is_denied (unasked_by (gate_at q gates)) text ≡ true
      → Hears q text hs gates known keys rs → Hears q text (sent_request n r ∷ hs) gates known keys rs
  said_nothing n r hs keys rs mine denied rest =
      hears_nothing q text (sent_request n r) hs gates known keys rs
      (ap (λ f. leaves_by (gate_at f gates) text (request_message n r)) (same_face r.to.0 q mine) ∙ leaves_is (gate_at q gates) text (request_message n r) ∙ ap (λ b. cond b None (out_of (exit_of (gate_at q gates)) (request_message n r))) denied)
      refl refl rest

  -- ---- all messages of a call
  pub said_hears : (denied : ℕ → Bool) (ms : List TextMessage) (hs : List Handed) (keys : Option FaceKeys) (rs : List Message) → AllByRecursion (CanBeSaid names gates text denied) ms
      → Hears q text hs gates known keys rs → Hears q text (write names (map (move_message (shift_by o)) ms) ++ hs) gates known keys (said_to q denied ms rs)
  said_hears denied [] hs keys rs can rest = rest
  said_hears denied (text_request r ∷ ms) hs keys rs can rest = by (r.to.0 == q) refl (denied r.to.0) refl (said_hears denied ms hs keys rs can.1 rest)
    where
      u : TextRequest
      u = record r { text = move_suffix (shift_by o) r.text }

      more : List Handed
      more = write names (map (move_message (shift_by o)) ms) ++ hs

      Goal : List Message → Type 0
      Goal l = Hears q text (sent_request (face_keys r.to.0 names) u ∷ more) gates known keys l

      by : (b : Bool) → (r.to.0 == q) ≡ b → (d : Bool) → denied r.to.0 ≡ d → Hears q text more gates known keys (said_to q denied ms rs) → Goal (cond b (cond d (said_to q denied ms rs) (full_message (text_request r) ∷ said_to q denied ms rs)) (said_to q denied ms rs))
      by false other d is later = said_other (sent_request (face_keys r.to.0 names) u) more keys (said_to q denied ms rs) other refl later
      by true mine true is later = said_nothing (face_keys r.to.0 names) u more keys (said_to q denied ms rs) mine (ap (λ f. is_denied (unasked_by (gate_at f gates)) text) (sym (same_face r.to.0 q mine)) ∙ can.0.2 ∙ is) later
      by true mine false is later =
          said_mine (sent_request (face_keys r.to.0 names) u) (full_message (text_request r)) more keys (said_to q denied ms rs) mine (ap (λ f. is_denied (unasked_by (gate_at f gates)) text) (sym (same_face r.to.0 q mine)) ∙ can.0.2 ∙ is)
          (subst (λ f. Says (request_message (face_keys f names) u) (full_message (text_request r))) (sym (same_face r.to.0 q mine)) (request_says r can.0.0 (ap (λ f. is_some (naming_at f names)) (sym (same_face r.to.0 q mine)) ∙ can.0.1)))
          later
  said_hears denied (text_reply r ∷ ms) hs keys rs can rest = by (r.to.0 == q) refl (said_hears denied ms hs keys rs can.1 rest)
    where
      u : TextReply
      u = record r { text = move_suffix (shift_by o) r.text }

      more : List Handed
      more = write names (map (move_message (shift_by o)) ms) ++ hs

      by : (b : Bool) → (r.to.0 == q) ≡ b → Hears q text more gates known keys (said_to q denied ms rs) → Hears q text (sent_reply u ∷ more) gates known keys (cond b (full_message (text_reply r) ∷ said_to q denied ms rs) (said_to q denied ms rs))
      by false other later = said_other (sent_reply u) more keys (said_to q denied ms rs) other refl later
      by true mine later =
          said_mine (sent_reply u) (full_message (text_reply r)) more keys (said_to q denied ms rs) mine refl
          (reply_says r can.0.0 (ap (λ f. is_some (naming_at f names)) (sym (same_face r.to.0 q mine)) ∙ can.0.1)) later
  said_hears denied (text_final f ∷ ms) hs keys rs can rest = by (f.asker.0 == q) refl (said_hears denied ms hs keys rs can.1 rest)
    where
      more : List Handed
      more = write names (map (move_message (shift_by o)) ms) ++ hs

      goes : (x : Option ExitState) → out_of x (final_message f) ≡ Some (final_message f)
      goes None = refl
      goes (Some e) = refl

      by : (b : Bool) → (f.asker.0 == q) ≡ b → Hears q text more gates known keys (said_to q denied ms rs) → Hears q text (sent_final f ∷ more) gates known keys (cond b (full_message (text_final f) ∷ said_to q denied ms rs) (said_to q denied ms rs))
      by false other later = said_other (sent_final f) more keys (said_to q denied ms rs) other refl later
      by true mine later =
          said_mine (sent_final f) (final_message f) more keys (said_to q denied ms rs) mine refl
          (record { left = final_message f; leaves = goes (exit_of (gate_at q gates)); reads = refl; quiet = refl }) later
