-- What leaves stays within what was handed; what entered leaves as it was sent; a denied key does not leave.
use Rattle.std.proofs.Common.{◌≡◌, ℕ, ◌==◌, Bool, true, false, cond, List, [], ◌∷◌, ◌++◌, length, Option, Some, None, Result, Ok, Err, IfOk, IfSome, refl, sym, ap, ◌∙◌, subst, eqb-true, arith}
use Rattle.std.specs.Prelude.{IsSomeAnd, Contains}
use Rattle.std.specs.Option.{option_and_then, option_map}
use Rattle.std.proofs.lemmas.Bool.{and_parts, false≢true}
use Rattle.std.proofs.lemmas.List.Folds.{list_any_at}
use Rattle.zq_key.specs.Key.{includes, is_chunk, is_key, is_plain}
use Rattle.zq_key.specs.Space.{strip}
use Rattle.zq_key.proofs.Behind.{key-behind, strip-behind}
use Rattle.zq_key.proofs.Within.{left-key, whole, within}
use Rattle.zq_message.specs.declared.message.WireExpr.{WireExpr}
use Rattle.zq_message.specs.declared.message.Mapping.{Mapping}
use Rattle.zq_message.specs.declared.message.Interest.{Interest}
use Rattle.zq_message.specs.declared.message.Response.{Response}
use Rattle.zq_message.specs.declared.message.Declare.{Declare}
use Rattle.zq_message.specs.declared.message.DeclareBody.{DeclareBody}
use Rattle.zq_message.specs.declared.message.DeclareBody.TheVariants as declare
use Rattle.zq_message.specs.declared.message.Message.{Message}
use Rattle.zq_message.specs.declared.message.Message.TheVariants as message
use Rattle.zq_namespace.specs.Denied.{MuxState, is_denied, mux_leaves}
use Rattle.zq_namespace.specs.Entry.{entered, is_bare, is_bare_error, is_error}
use Rattle.zq_namespace.specs.Exit.{Heads, full_text, head_at, headed_out, is_receiver, option_out, text_out, wire_out, with_text}
use Rattle.zq_namespace.specs.Leaves.{ExitState, body_leaves, declare_with, interest_with, leaves, request_with, response_with}
use Rattle.zq_namespace.specs.Laws.{IsWithin, LeavesWithin, StaysIn, StaysWithin, body_expr, expr_of, text_of}

-- the empty text is no key
no-key : is_key [] ≡ true → ⊥
unfolding is_key is_chunk
no-key h = false≢true h

-- what holds of a value holds of what a call answers, where that is the value
pub carried : {X Y E : Type 0} (f : X → Y) (P : Y → Type 0) (y : Y) (r : Result X E) → IfOk r (λ x. f x ≡ y) → P y → IfOk r (λ x. P (f x))
carried f P y (Ok x) e p = subst P (sym e) p
carried f P y (Err x) e p = tt

-- ---- what entered

back-plainly : (n : List ℕ) (heads : Heads) (m : Mapping) (s : List ℕ) → is_plain n ≡ true → is_key s ≡ true → wire_out n heads (entered n (record { scope = 0; mapping = m; suffix = s })) ≡ Some (record { scope = 0; mapping = m; suffix = s })
unfolding wire_out
back-plainly n heads m [] p k = absurd (no-key k)
back-plainly n heads m (c ∷ s) p k = rw (key-behind n (c ∷ s) p, k, strip-behind n (c ∷ s) p) refl

back : (n : List ℕ) (heads : Heads) (w : WireExpr) → is_plain n ≡ true → w.scope ≡ 0 → is_key w.suffix ≡ true → wire_out n heads (entered n w) ≡ Some w
back n heads w p z k =
    let same : record w { scope = 0 } ≡ w = ap (λ x. record w { scope = x }) (sym z) in
    subst (λ x. wire_out n heads (entered n x) ≡ Some x) same (back-plainly n heads w.mapping w.suffix p k)

pub comes-back : {E : Type 0} (n : List ℕ) (heads : Heads) (w : WireExpr) (r : Result WireExpr E) → IfOk r (λ x. x ≡ entered n w) → is_plain n ≡ true → w.scope ≡ 0 → is_key w.suffix ≡ true → IfOk r (λ x. wire_out n heads x ≡ Some w)
comes-back n heads w r e p z k = carried (λ x. x) (λ x. wire_out n heads x ≡ Some w) (entered n w) r e (back n heads w p z k)

-- ---- what leaves of an expression

text-within : (n : List ℕ) (w v : WireExpr) (t : List ℕ) → is_plain n ≡ true → text_out n w t ≡ Some v → IsWithin n t v
text-within n w v t p out = at (is_key t) refl (strip n t) refl out
  where
    at : (b : Bool) → is_key t ≡ b → (o : Option (List ℕ)) → strip n t ≡ o → cond b (option_map (with_text w) o) None ≡ Some v → IsWithin n t v
    at false k o s e = absurd (cc)
    at true k None s e = absurd (cc)
    at true k (Some r) s e =
        let same : with_text w r ≡ v = cc in
        subst (IsWithin n t) same (record { number = refl; key = left-key n t r k s; within = within n t r p s; whole = λ q. whole n t r p q s })

unsome : {X : Type 0} (x y : X) → Some x ≡ Some y → x ≡ y
unsome x y e = cc

wire-within : (n : List ℕ) (heads : Heads) (w v : WireExpr) (t : List ℕ) → is_plain n ≡ true → full_text heads w ≡ Some t → wire_out n heads w ≡ Some v → IsWithin n t v
unfolding wire_out
wire-within n heads w v t p says out = at (w.scope == 0) (is_receiver w.mapping) (head_at w.scope heads) says out
  where
    headed : (head : List ℕ) (b : Bool) → head ++ w.suffix ≡ t → cond b None (text_out n w (head ++ w.suffix)) ≡ Some v → IsWithin n t v
    headed head true e out = absurd (cc)
    headed head false e out = text-within n w v t p (ap (text_out n w) (sym e) ∙ out)

    at : (z r : Bool) (h : Option (List ℕ)) → cond z (Some w.suffix) (cond r None (option_map (λ head. head ++ w.suffix) h)) ≡ Some t → cond z (text_out n w w.suffix) (cond r (Some w) (headed_out n w h)) ≡ Some v → IsWithin n t v
    at true r h says out = text-within n w v t p (ap (text_out n w) (sym (unsome w.suffix t says)) ∙ out)
    at false true h says out = absurd (cc)
    at false false None says out = absurd (cc)
    at false false (Some head) says out = headed head (length w.suffix == 0) (unsome (head ++ w.suffix) t says) out

-- ---- what leaves of a message

module _ (s : ExitState) (p : is_plain s.ns ≡ true) (t : List ℕ) (k : is_key t ≡ true) where
  Kept : Message → Type 0
  Kept v = IsSomeAnd (expr_of v) (IsWithin s.ns t)

  put : (f : WireExpr → Message) → ((v : WireExpr) → expr_of (f v) ≡ Some v) → (w : WireExpr) → full_text s.heads w ≡ Some t → (o : Option WireExpr) → wire_out s.ns s.heads w ≡ o → IfSome (option_map f o) Kept
  unfolding Kept
  put f same w says None out = tt
  put f same w says (Some v) out = rw (same v) (wire-within s.ns s.heads w v t p says out)

  put-in : {X : Type 0} (g : X → Message) (f : WireExpr → X) → ((v : WireExpr) → expr_of (g (f v)) ≡ Some v) → (w : WireExpr) → full_text s.heads w ≡ Some t → (o : Option WireExpr) → wire_out s.ns s.heads w ≡ o → IfSome (option_map g (option_map f o)) Kept
  unfolding Kept
  put-in g f same w says None out = tt
  put-in g f same w says (Some v) out = rw (same v) (wire-within s.ns s.heads w v t p says out)

  interest-within : (i : Interest) (w : Option WireExpr) → option_and_then (full_text s.heads) w ≡ Some t → IfSome (option_map (interest_with i) (option_out s.ns s.heads w)) Kept
  interest-within i None says = absurd (cc)
  interest-within i (Some w) says = put-in (interest_with i) (λ v. Some v) (λ v. refl) w says (wire_out s.ns s.heads w) refl

  body-within : (d : Declare) (b : DeclareBody) → option_and_then (full_text s.heads) (body_expr b) ≡ Some t → IfSome (option_map (declare_with d) (body_leaves s b)) Kept
  body-within d (declare.DeclareKeyExpr id w) says = put-in (declare_with d) (λ v. declare.DeclareKeyExpr id v) (λ v. refl) w says (wire_out s.ns s.heads w) refl
  body-within d (declare.UndeclareKeyExpr id) says = absurd (cc)
  body-within d (declare.DeclareQueryable id w info) says = put-in (declare_with d) (λ v. declare.DeclareQueryable id v info) (λ v. refl) w says (wire_out s.ns s.heads w) refl
  body-within d (declare.UndeclareQueryable id None) says = absurd (cc)
  body-within d (declare.UndeclareQueryable id (Some w)) says = put-in (declare_with d) (λ v. declare.UndeclareQueryable id (Some v)) (λ v. refl) w says (wire_out s.ns s.heads w) refl
  body-within d declare.DeclareFinal says = absurd (cc)

  -- the empty expression says no key
  bare : (w : WireExpr) → is_bare w ≡ true → full_text s.heads w ≡ Some t → ⊥
  bare w b says =
      let parts = and_parts (w.scope == 0) (length w.suffix == 0) b in
      let text : w.suffix ≡ t = unsome w.suffix t (sym (ap (λ z. cond z (Some w.suffix) (cond (is_receiver w.mapping) None (option_map (λ head. head ++ w.suffix) (head_at w.scope s.heads)))) parts.0) ∙ says) in
      no-key (ap is_key (sym (empty w.suffix (eqb-true _ _ parts.1)) ∙ text) ∙ k)
    where
      empty : (l : List ℕ) → length l ≡ 0 → l ≡ []
      empty [] e = refl
      empty (x ∷ l) e = absurd (omega (arith, e))

  response-within : (r : Response) → full_text s.heads r.wire ≡ Some t → (b : Bool) → is_bare_error r ≡ b → IfSome (cond b (Some (message.Response r)) (option_map (response_with r) (wire_out s.ns s.heads r.wire))) Kept
  response-within r says true b = absurd (bare r.wire ((and_parts (is_error r.payload) (is_bare r.wire) b).1) says)
  response-within r says false b = put (response_with r) (λ v. refl) r.wire says (wire_out s.ns s.heads r.wire) refl

  message-within : (m : Message) → text_of s.heads m ≡ Some t → IfSome (leaves s m) Kept
  message-within (message.Interest i) says = interest-within i i.wire says
  message-within (message.InterestFinal id) says = absurd (cc)
  message-within (message.Declare d) says = body-within d d.body says
  message-within (message.Request r) says = put (request_with r) (λ v. refl) r.wire says (wire_out s.ns s.heads r.wire) refl
  message-within (message.Response r) says = response-within r says (is_bare_error r) refl
  message-within (message.ResponseFinal f) says = absurd (cc)

pub leaves-within : LeavesWithin
unfolding Kept
leaves-within s m p = λ t says k. message-within s p t k m says

pub answers-within : {X E : Type 0} (s : ExitState) (m : Message) (f : X → Option Message) (r : Result X E) → is_plain s.ns ≡ true → IfOk r (λ x. f x ≡ leaves s m) → IfOk r (λ x. StaysWithin s m (f x))
answers-within s m f r p e = carried f (StaysWithin s m) (leaves s m) r e (leaves-within s m p)

-- ---- denied keys

denied : (exit : List (List ℕ)) (key k : List ℕ) → Contains exit k → includes k key ≡ true → is_denied exit key ≡ true
denied exit key k (i, l, e) h = list_any_at (λ x. includes x key) exit i k l (ap (λ x. includes x key) e ∙ h)

pub stays-in : (s : MuxState) (key : List ℕ) (m : Message) → StaysIn s.exit key m (mux_leaves s key m)
stays-in s key m k r is c h = rw (is) (rw (denied s.exit key k c h) refl)

pub answers-in : {X E : Type 0} (s : MuxState) (key : List ℕ) (m : Message) (f : X → Option Message) (r : Result X E) → IfOk r (λ x. f x ≡ mux_leaves s key m) → IfOk r (λ x. StaysIn s.exit key m (f x))
answers-in s key m f r e = carried f (StaysIn s.exit key m) (mux_leaves s key m) r e (stays-in s key m)
