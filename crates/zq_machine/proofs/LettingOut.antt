-- What leaves is what is handed but for its expression; and what says a key under a namespace leaves without it.
use Rattle.std.proofs.Common.{◌≡◌, ◌∙◌, refl, sym, ap, subst, ℕ, ◌==◌, ◌<◌, Bool, true, false, cond, List, [], ◌++◌, length, Option, Some, None, IfSome, eqb-true, arith}
use Rattle.std.specs.Prelude.{IsSomeAnd, is_some}
use Rattle.std.specs.Option.{option_map}
use Rattle.std.proofs.lemmas.Bool.{and_parts}
use Rattle.zq_key.specs.Key.{is_key, is_plain}
use Rattle.zq_key.specs.Space.{behind, strip}
use Rattle.zq_key.proofs.Behind.{key-behind, strip-behind}
use Rattle.zq_message.specs.declared.message.Declare.{Declare}
use Rattle.zq_message.specs.declared.message.DeclareBody.{DeclareBody}
use Rattle.zq_message.specs.declared.message.DeclareBody.TheVariants as body
use Rattle.zq_message.specs.declared.message.Interest.{Interest}
use Rattle.zq_message.specs.declared.message.Mapping.TheVariants.{Sender}
use Rattle.zq_message.specs.declared.message.Message.{Message}
use Rattle.zq_message.specs.declared.message.Message.TheVariants as message
use Rattle.zq_message.specs.declared.message.Request.{Request}
use Rattle.zq_message.specs.declared.message.WireExpr.{WireExpr}
use Rattle.zq_namespace.specs.Denied.{IsPlainSpace, denies, space_leaves}
use Rattle.zq_namespace.specs.Entry.{is_bare, is_bare_error, is_error}
use Rattle.zq_namespace.specs.Exit.{Heads, full_text, head_at, headed_out, is_receiver, option_out, text_out, wire_out, with_text}
use Rattle.zq_namespace.specs.Laws.{body_expr, expr_of}
use Rattle.zq_namespace.specs.Leaves.{ExitState, body_leaves, declare_with, has_id, interest_with, leaves, request_with, response_with}
use Rattle.zq_machine.specs.Behind.{Bars}
use Rattle.zq_machine.specs.Within.{IsRewritten, LetsOut, body_with}
use Rattle.zq_machine.proofs.Denying.{none_denied}

-- ---- all but the expression stays
-- an expression for messages that have none
no_expr : WireExpr
no_expr = record { scope = 0; mapping = Sender; suffix = [] }

-- another expression in the place of one
module _ (m : Message) where
  put : (f : WireExpr → Message) → ((w : WireExpr) → IsRewritten m (f w)) → (o : Option WireExpr) → IfSome (option_map f o) (IsRewritten m)
  put f same None = tt
  put f same (Some w) = same w

  put_in : {X : Type 0} (g : X → Message) (f : WireExpr → X) → ((w : WireExpr) → IsRewritten m (g (f w))) → (o : Option WireExpr) → IfSome (option_map g (option_map f o)) (IsRewritten m)
  put_in g f same None = tt
  put_in g f same (Some w) = same w

  -- it leaves as it is, or not at all
  either : IsRewritten m m → (b : Bool) → IfSome (cond b None (Some m)) (IsRewritten m)
  either same true = tt
  either same false = same

body_same : (d : Declare) (b : DeclareBody) → IsRewritten (message.Declare (record d { body = b })) (message.Declare (record d { body = b }))
body_same d (body.DeclareKeyExpr id w) = (w, refl)
body_same d (body.UndeclareKeyExpr id) = (no_expr, refl)
body_same d (body.DeclareQueryable id w info) = (w, refl)
body_same d (body.UndeclareQueryable id None) = (no_expr, refl)
body_same d (body.UndeclareQueryable id (Some w)) = (w, refl)
body_same d body.DeclareFinal = (no_expr, refl)

interest_same : (id : ℕ) (keys aggregate : Bool) (w : Option WireExpr)
    → IsRewritten (message.Interest (record { id = id; keys = keys; aggregate = aggregate; wire = w })) (message.Interest (record { id = id; keys = keys; aggregate = aggregate; wire = w }))
interest_same id keys aggregate None = (no_expr, refl)
interest_same id keys aggregate (Some w) = (w, refl)

same : (m : Message) → IsRewritten m m
same (message.Interest i) = interest_same i.id i.keys i.aggregate i.wire
same (message.InterestFinal id) = (no_expr, refl)
same (message.Declare d) = body_same d d.body
same (message.Request r) = (r.wire, refl)
same (message.Response r) = (r.wire, refl)
same (message.ResponseFinal f) = (no_expr, refl)

module _ (e : ExitState) where
  interest_rest : (id : ℕ) (keys aggregate : Bool) (w : Option WireExpr)
      → IfSome (option_map (interest_with (record { id = id; keys = keys; aggregate = aggregate; wire = w })) (option_out e.ns e.heads w)) (IsRewritten (message.Interest (record { id = id; keys = keys; aggregate = aggregate; wire = w })))
  interest_rest id keys aggregate None = (no_expr, refl)
  interest_rest id keys aggregate (Some w) =
      let i : Interest = record { id = id; keys = keys; aggregate = aggregate; wire = Some w } in
      put_in (message.Interest i) (interest_with i) (λ v. Some v) (λ v. (v, refl)) (wire_out e.ns e.heads w)

  -- a declaration without an expression
  ended_rest : (d : Declare) (b : DeclareBody) → b ≡ body_with no_expr b → (kept : Bool) → IfSome (option_map (declare_with d) (cond kept None (Some b))) (IsRewritten (message.Declare (record d { body = b })))
  ended_rest d b bare true = tt
  ended_rest d b bare false = (no_expr, ap (declare_with d) bare)

  body_rest : (d : Declare) (b : DeclareBody) → IfSome (option_map (declare_with d) (body_leaves e b)) (IsRewritten (message.Declare (record d { body = b })))
  body_rest d (body.DeclareKeyExpr id w) = put_in (message.Declare (record d { body = body.DeclareKeyExpr id w })) (declare_with d) (λ v. body.DeclareKeyExpr id v) (λ v. (v, refl)) (wire_out e.ns e.heads w)
  body_rest d (body.UndeclareKeyExpr id) = ended_rest d (body.UndeclareKeyExpr id) refl (is_some (head_at id e.heads))
  body_rest d (body.DeclareQueryable id w info) = put_in (message.Declare (record d { body = body.DeclareQueryable id w info })) (declare_with d) (λ v. body.DeclareQueryable id v info) (λ v. (v, refl)) (wire_out e.ns e.heads w)
  body_rest d (body.UndeclareQueryable id None) = ended_rest d (body.UndeclareQueryable id None) refl (has_id id e.queryables)
  body_rest d (body.UndeclareQueryable id (Some w)) = put_in (message.Declare (record d { body = body.UndeclareQueryable id (Some w) })) (declare_with d) (λ v. body.UndeclareQueryable id (Some v)) (λ v. (v, refl)) (wire_out e.ns e.heads w)
  body_rest d body.DeclareFinal = (no_expr, refl)

  message_rest : (m : Message) → IfSome (leaves e m) (IsRewritten m)
  message_rest (message.Interest i) = interest_rest i.id i.keys i.aggregate i.wire
  message_rest (message.InterestFinal id) = either (message.InterestFinal id) (no_expr, refl) (has_id id e.interests)
  message_rest (message.Declare d) = body_rest d d.body
  message_rest (message.Request r) = put (message.Request r) (request_with r) (λ v. (v, refl)) (wire_out e.ns e.heads r.wire)
  message_rest (message.Response r) = by (is_bare_error r)
    where
      by : (b : Bool) → IfSome (cond b (Some (message.Response r)) (option_map (response_with r) (wire_out e.ns e.heads r.wire))) (IsRewritten (message.Response r))
      by true = (r.wire, refl)
      by false = put (message.Response r) (response_with r) (λ v. (v, refl)) (wire_out e.ns e.heads r.wire)
  message_rest (message.ResponseFinal f) = (no_expr, refl)

pub space_rest : (o : Option ExitState) (m : Message) (b : Bool) → IfSome (cond b None (space_leaves o m)) (IsRewritten m)
space_rest o m true = tt
space_rest None m false = same m
space_rest (Some e) m false = message_rest e m

-- the end of declarations leaves as it is
pub ends_leave : (o : Option ExitState) (d : Declare) → d.body ≡ body.DeclareFinal → space_leaves o (message.Declare d) ≡ Some (message.Declare d)
ends_leave None d ends = refl
ends_leave (Some e) d ends = ap (λ b. option_map (declare_with d) (body_leaves e b)) ends ∙ ap (λ b. Some (declare_with d b)) (sym ends)

-- ---- what says a key under the namespace leaves without it
unsome : (x y : WireExpr) → Some x ≡ Some y → x ≡ y
unsome x y e = cc

untext : (x y : List ℕ) → Some x ≡ Some y → x ≡ y
untext x y e = cc

module _ (n : List ℕ) (plain : is_plain n ≡ true) (heads : Heads) (k : List ℕ) (key : is_key k ≡ true) where
  text_lets : (w : WireExpr) (t : List ℕ) → t ≡ behind n k → text_out n w t ≡ Some (with_text w k)
  text_lets w t is =
      ap (text_out n w) is
      ∙ ap (λ b. cond b (option_map (with_text w) (strip n (behind n k))) None) (key-behind n k plain ∙ key)
      ∙ ap (option_map (with_text w)) (strip-behind n k plain)

  wire_lets : (w : WireExpr) → 0 < length w.suffix → full_text heads w ≡ Some (behind n k) → wire_out n heads w ≡ Some (with_text w k)
  unfolding wire_out
  wire_lets w some says = at (w.scope == 0) (is_receiver w.mapping) (head_at w.scope heads) says
    where
      headed : (head : List ℕ) (b : Bool) → (length w.suffix == 0) ≡ b → head ++ w.suffix ≡ behind n k → cond b None (text_out n w (head ++ w.suffix)) ≡ Some (with_text w k)
      headed head true e is = let none : length w.suffix ≡ 0 = eqb-true _ _ e in absurd (omega (arith, some, none))
      headed head false e is = text_lets w (head ++ w.suffix) is

      at : (z r : Bool) (h : Option (List ℕ)) → cond z (Some w.suffix) (cond r None (option_map (λ head. head ++ w.suffix) h)) ≡ Some (behind n k) → cond z (text_out n w w.suffix) (cond r (Some w) (headed_out n w h)) ≡ Some (with_text w k)
      at true r h is = text_lets w w.suffix (untext _ _ is)
      at false true h is = absurd (cc)
      at false false None is = absurd (cc)
      at false false (Some head) is = headed head (length w.suffix == 0) refl (untext _ _ is)

module _ (e : ExitState) (plain : is_plain e.ns ≡ true) (k : List ℕ) (key : is_key k ≡ true) (w : WireExpr) (some : 0 < length w.suffix) (says : full_text e.heads w ≡ Some (behind e.ns k)) where
  -- the expression that leaves
  abbrev Says : Message → Type 0
  Says v = expr_of v ≡ Some (with_text w k)

  out : (x : WireExpr) → Some x ≡ Some w → wire_out e.ns e.heads x ≡ Some (with_text w k)
  out x is = ap (wire_out e.ns e.heads) (unsome x w is) ∙ wire_lets e.ns plain e.heads k key w some says

  lets : (f : WireExpr → Message) → ((v : WireExpr) → expr_of (f v) ≡ Some v) → (o : Option WireExpr) → o ≡ Some (with_text w k) → IsSomeAnd (option_map f o) Says
  lets f has o is = subst (λ x. IsSomeAnd (option_map f x) Says) (sym is) (has (with_text w k))

  lets_in : {X : Type 0} (g : X → Message) (f : WireExpr → X) → ((v : WireExpr) → expr_of (g (f v)) ≡ Some v) → (o : Option WireExpr) → o ≡ Some (with_text w k) → IsSomeAnd (option_map g (option_map f o)) Says
  lets_in g f has o is = subst (λ x. IsSomeAnd (option_map g (option_map f x)) Says) (sym is) (has (with_text w k))

  body_lets : (d : Declare) (b : DeclareBody) → body_expr b ≡ Some w → IsSomeAnd (option_map (declare_with d) (body_leaves e b)) Says
  body_lets d (body.DeclareKeyExpr id x) is = lets_in (declare_with d) (λ v. body.DeclareKeyExpr id v) (λ v. refl) (wire_out e.ns e.heads x) (out x is)
  body_lets d (body.UndeclareKeyExpr id) is = absurd (cc)
  body_lets d (body.DeclareQueryable id x info) is = lets_in (declare_with d) (λ v. body.DeclareQueryable id v info) (λ v. refl) (wire_out e.ns e.heads x) (out x is)
  body_lets d (body.UndeclareQueryable id None) is = absurd (cc)
  body_lets d (body.UndeclareQueryable id (Some x)) is = lets_in (declare_with d) (λ v. body.UndeclareQueryable id (Some v)) (λ v. refl) (wire_out e.ns e.heads x) (out x is)
  body_lets d body.DeclareFinal is = absurd (cc)

  message_lets : (m : Message) → expr_of m ≡ Some w → IsSomeAnd (leaves e m) Says
  message_lets (message.Interest i) is =
      subst (λ x. IsSomeAnd (option_map (interest_with i) (option_out e.ns e.heads x)) Says) (sym is)
      (lets_in (interest_with i) (λ v. Some v) (λ v. refl) (wire_out e.ns e.heads w) (out w refl))
  message_lets (message.InterestFinal id) is = absurd (cc)
  message_lets (message.Declare d) is = body_lets d d.body is
  message_lets (message.Request r) is = lets (request_with r) (λ v. refl) (wire_out e.ns e.heads r.wire) (out r.wire is)
  message_lets (message.Response r) is = by (is_bare_error r) refl
    where
      by : (b : Bool) → is_bare_error r ≡ b → IsSomeAnd (cond b (Some (message.Response r)) (option_map (response_with r) (wire_out e.ns e.heads r.wire))) Says
      by true bare =
          let none : length r.wire.suffix ≡ 0 = eqb-true _ _ ((and_parts (r.wire.scope == 0) (length r.wire.suffix == 0) ((and_parts (is_error r.payload) (is_bare r.wire) bare).1)).1) in
          let same : length r.wire.suffix ≡ length w.suffix = ap (λ (x : WireExpr). length x.suffix) (unsome r.wire w is) in
          absurd (omega (arith, some, none, same))
      by false bare = lets (response_with r) (λ v. refl) (wire_out e.ns e.heads r.wire) (out r.wire is)
  message_lets (message.ResponseFinal f) is = absurd (cc)

space_lets : (o : Option ExitState) → IsPlainSpace (option_map (λ (e : ExitState). e.ns) o) → (m : Message) → LetsOut o m (space_leaves o m)
space_lets None plain m = refl
space_lets (Some e) plain m = λ k w is some says key. message_lets e plain k key w some says m is

-- what no denied key includes is not denied
not_denied : (exit : List (List ℕ)) (text : List ℕ) (m : Message) → ((r : Request) → m ≡ message.Request r → Bars exit text → ⊥) → denies exit text m ≡ false
not_denied exit text (message.Request r) free = none_denied exit text (free r refl)
not_denied exit text (message.Interest i) free = refl
not_denied exit text (message.InterestFinal id) free = refl
not_denied exit text (message.Declare d) free = refl
not_denied exit text (message.Response r) free = refl
not_denied exit text (message.ResponseFinal f) free = refl

pub exit_lets : (o : Option ExitState) → IsPlainSpace (option_map (λ (e : ExitState). e.ns) o) → (exit : List (List ℕ)) (text : List ℕ) (m : Message)
    → ((r : Request) → m ≡ message.Request r → Bars exit text → ⊥) → LetsOut o m (cond (denies exit text m) None (space_leaves o m))
exit_lets o plain exit text m free = subst (λ b. LetsOut o m (cond b None (space_leaves o m))) (sym (not_denied exit text m free)) (space_lets o plain m)
