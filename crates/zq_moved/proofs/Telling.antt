-- What a face is told, in a run whose faces are all in one namespace or in none: what it reads is what was told, without the namespace.
use Rattle.std.proofs.Common.{◌≡◌, ◌∙◌, refl, sym, ap, subst, ℕ, ◌<◌, Bool, true, false, cond, List, [], ◌∷◌, ◌++◌, length, map, Option, Some, None, arith, eqb-true}
use Rattle.std.specs.Prelude.{◌==◌, ◌&&◌, is_none, is_some, unwrap_or}
use Rattle.std.specs.List.{AllByRecursion}
use Rattle.std.specs.Option.{option_map}
use Rattle.std.specs.BTreeMap.{is_at}
use Rattle.std.specs.Ordering.{nat_cmp}
use Rattle.std.proofs.lemmas.Bool.{false≢true}
use Rattle.std.proofs.lemmas.Option.{none-some}
use Rattle.zq_key.specs.Key.{is_key}
use Rattle.zq_key.specs.Space.{behind, strip}
use Rattle.zq_message.specs.declared.message.Declare.{Declare}
use Rattle.zq_message.specs.declared.message.DeclareBody.TheVariants as body
use Rattle.zq_message.specs.declared.message.FaceId.{FaceId}
use Rattle.zq_message.specs.declared.message.Message.{Message}
use Rattle.zq_message.specs.declared.message.Message.TheVariants as message
use Rattle.zq_message.specs.declared.message.WireExpr.{WireExpr}
use Rattle.zq_names.specs.Texts.{nonwild}
use Rattle.zq_tables.specs.FaceIds.{with_id}
use Rattle.zq_tables.specs.FaceTexts.{with_declared}
use Rattle.zq_tables.specs.declared.decl.DeclKey.{DeclKey}
use Rattle.zq_tables.proofs.Choosing.{IsNew, new_is}
use Rattle.zq_tables.proofs.IdLemmas.{next_unused}
use Rattle.zq_tables.specs.declared.resolved.Resolved.TheVariants as said
use Rattle.zq_tables.specs.Naming.{FaceKeys, FaceNaming, NamingState, change_naming, face_naming, naming_at, no_keys, plain, read_by, text_at, with_told_number}
use Rattle.zq_namespace.specs.Exit.{text_out, wire_out, with_text}
use Rattle.zq_namespace.specs.Leaves.{ExitState, declare_with, has_id, kept as left_of, with_head}
use Rattle.zq_namespace.specs.Denied.{space_leaves as out_of}
use Rattle.zq_machine.specs.Gates.{Gate, Gates, gate_at, keeping, kept_by, leaves_by, space_of, through, with_given}
use Rattle.zq_machine.specs.Handing.{Handed}
use Rattle.zq_machine.specs.Hearing.{CanBeTold}
use Rattle.zq_machine.specs.Messages.{Telling, TellingBody, all_told, key_ended, key_told}
use Rattle.zq_machine.specs.Moved.{move_telling, move_told}
use Rattle.zq_machine.specs.State.{Core}
use Rattle.zq_machine.specs.Writing.{and_then, is_local_face, may_number, tell, tell_body, tell_declare, tell_number, told_key}
use Rattle.zq_machine.proofs.Changing.{found_here, found_other, itself, naming_changed, number_test}
use Rattle.zq_machine.proofs.Gates.{space_given}
use Rattle.zq_machine.proofs.Hearing.{all_open, key_reads}
use Rattle.zq_machine.proofs.Telling.{declared, number_declare}
use Rattle.zq_moved.specs.Received.{in_full, knows, knows_handed, knows_left, message_in_full, reads_left}
use Rattle.zq_moved.proofs.Lower.{IsFrontOf, key_some, nonwild_front}
use Rattle.zq_moved.proofs.Under.{front_left, leaving}
use Rattle.zq_moved.proofs.Fits.{Fits, FitsSpace, number_leaves, number_stays, shift}
use Rattle.zq_moved.proofs.Reading.{full_plainly}
use Rattle.zq_moved.proofs.Passing.{FaceFits, Hears, exit_of, goes_out, hears_first, hears_mine, hears_none, hears_other, leaves_is, mine_given, other_given}

-- ---- a run in a namespace or in none
-- a text as it is in the run
abbrev pub shift_by : Option (List ℕ) → List ℕ → List ℕ
shift_by None t = t
shift_by (Some n) t = behind n t

-- the face's gate has the run's namespace, and what stands for its keys fits
pub record Ready (o : Option (List ℕ)) (keys : Option FaceKeys) (g : Option Gate) (known : FaceNaming) : Type 0 where
  pub fits : FaceFits keys g known
  pub space : is_some keys ≡ true → space_of g ≡ o

shifts_by : (x : Option ExitState) (o : Option (List ℕ)) (t : List ℕ) → option_map (λ (e : ExitState). e.ns) x ≡ o → shift x t ≡ shift_by o t
shifts_by None o t e = ap (λ z. shift_by z t) e
shifts_by (Some x) o t e = ap (λ z. shift_by z t) e

pub space_is : (g : Option Gate) → option_map (λ (e : ExitState). e.ns) (exit_of g) ≡ space_of g
space_is None = refl
space_is (Some g) = refl

pub shifts : (g : Option Gate) (o : Option (List ℕ)) (t : List ℕ) → space_of g ≡ o → shift (exit_of g) t ≡ shift_by o t
shifts g o t e = shifts_by (exit_of g) o t (space_is g ∙ e)

pub shift_some : (o : Option (List ℕ)) (t : List ℕ) → 0 < length t → 0 < length (shift_by o t)
shift_some None t h = h
shift_some (Some []) t h = omega arith
shift_some (Some (b ∷ n)) t h = omega arith

-- a declaration leaves if it is not denied, which none is
pub declare_out : (g : Option Gate) (text : List ℕ) (d : Declare) → leaves_by g text (message.Declare d) ≡ out_of (exit_of g) (message.Declare d)
declare_out g text d = leaves_is g text (message.Declare d)

-- what is left of a text that leaves
strips : (n x p : List ℕ) → leaving n x ≡ Some p → strip n x ≡ Some p
strips n x p e = by (is_key x) e
  where
    by : (b : Bool) → cond b (strip n x) None ≡ Some p → strip n x ≡ Some p
    by true e = e
    by false e = absurd (none-some p e)

-- what stands for keys, where the face is open
abbrev numbers_in : Option FaceKeys → FaceNaming
numbers_in x = (unwrap_or x no_keys).numbers

fused : {X Y Z : Type 0} (f : X → Y) (g : Y → Z) (o : Option X) → option_map g (option_map f o) ≡ option_map (λ x. g (f x)) o
fused f g None = refl
fused f g (Some x) = refl

pub same_face : (to q : ℕ) → (to == q) ≡ true → to ≡ q
same_face to q e = eqb-true to q e

-- ---- a number that is declared
number_text : (n : List ℕ) (w : WireExpr) (x : List ℕ) → text_out n w x ≡ option_map (with_text w) (leaving n x)
number_text n w x = by (is_key x)
  where
    by : (b : Bool) → cond b (option_map (with_text w) (strip n x)) None ≡ option_map (with_text w) (cond b (strip n x) None)
    by true = refl
    by false = refl

number_wire : (e : ExitState) (x : List ℕ) → wire_out e.ns e.heads (plain x) ≡ option_map (with_text (plain x)) (leaving e.ns x)
unfolding wire_out
number_wire e x = number_text e.ns (plain x) x

-- a gate with an exit
pub record HasExit (g : Option Gate) (e : ExitState) : Type 0 where
  pub gate : Gate
  pub there : g ≡ Some gate
  pub space : gate.exit.space ≡ Some e

has_exit : (g : Option Gate) (e : ExitState) → exit_of g ≡ Some e → HasExit g e
has_exit None e is = absurd (none-some e is)
has_exit (Some g) e is = record { gate = g; there = refl; space = is }

module _ (q : ℕ) (o : Option (List ℕ)) (text : List ℕ) (to : FaceId) (mine : (to.0 == q) ≡ true) (t : List ℕ) (id : ℕ) (k : FaceKeys) (known : FaceNaming) (gates : Gates)
    (fresh : text_at id k.numbers.ours ≡ None) (some : 0 < length (nonwild (shift_by o t))) (ready : Ready o (Some k) (gate_at q gates) known) where
  abbrev part : List ℕ
  part = nonwild (shift_by o t)

  abbrev number : Handed
  number = declared to (number_declare (shift_by o t) id)

  abbrev out : Handed
  out = through text gates number

  abbrev k' : FaceKeys
  k' = with_told_number (shift_by o t) (Some id) k

  out_is : out.leaves ≡ out_of (exit_of (gate_at q gates)) number.message
  out_is = ap (λ f. leaves_by (gate_at f gates) text number.message) (same_face to.0 q mine) ∙ declare_out (gate_at q gates) text (number_declare (shift_by o t) id)

  module _ (hs : List Handed) (keys : Option FaceKeys) (rs : List Message)
      (more : (g : Gates) (kn : FaceNaming) → Ready o (Some k') (gate_at q g) kn → Hears q text hs g kn keys rs) where
    -- by what leaves
    number_by : (left : Option Message) → out.leaves ≡ left → reads_left known left ≡ [] → (knows_left known left).theirs ≡ known.theirs
        → FaceFits (Some k') (gate_at q (with_given out gates)) (knows_left known left) → Hears q text (number ∷ hs) gates known keys rs
    number_by left is none own fits =
        let same : knows_handed q known out ≡ knows_left known left = ap (λ b. cond b (knows_left known out.leaves) known) mine ∙ ap (knows_left known) is in
        let now : Ready o (Some k') (gate_at q (with_given out gates)) (knows_left known left) = record { fits = fits; space = λ j. space_given q out gates ∙ ready.space refl } in
        hears_first q text number hs gates known keys [] rs
        (ap (λ b. cond b (reads_left known out.leaves) []) mine ∙ ap (reads_left known) is ∙ none)
        (λ g. by g (is_none out.leaves))
        (ap (λ (z : FaceNaming). z.theirs) same ∙ own)
        (subst (λ z. Hears q text hs (with_given out gates) z keys rs) (sym same) (more (with_given out gates) (knows_left known left) now))
      where
        by : (g : Gates) (b : Bool) → gate_at q (cond (b && false) (keeping out g) g) ≡ gate_at q g
        by g true = refl
        by g false = refl

    -- where something leaves the gate stays as it is
    gate_stays : (m : Message) → out.leaves ≡ Some m → gate_at q (with_given out gates) ≡ gate_at q gates
    gate_stays m is = ap (λ l. gate_at q (cond (is_none l && true) (keeping out gates) gates)) is

    -- in a namespace, by what leaves of the number's text
    spaced : (e : ExitState) → exit_of (gate_at q gates) ≡ Some e → FitsSpace e k.numbers known → ((p : List ℕ) → leaving e.ns part ≡ Some p → part ≡ behind e.ns p) → (l : Option (List ℕ)) → leaving e.ns part ≡ l → Hears q text (number ∷ hs) gates known keys rs
    spaced e has fits front (Some p) lets =
        let m : Message = message.Declare (record { interest = None; node = 0; body = body.DeclareKeyExpr id (plain p) }) in
        let is : out.leaves ≡ Some m =
        out_is ∙ ap (λ z. out_of z number.message) has ∙ ap (λ w. option_map (declare_with (number_declare (shift_by o t) id)) (option_map (λ v. body.DeclareKeyExpr id v) w)) (number_wire e part ∙ ap (option_map (with_text (plain part))) lets) in
        number_by (Some m) is refl refl
        (subst (λ z. Fits z k'.numbers (knows known m)) (sym (ap exit_of (gate_stays m is) ∙ has))
        (subst (λ y. FitsSpace e k'.numbers (record known { ours = with_id known.ours id y })) (sym (full_plainly p)) (number_leaves e k.numbers known fits id part fresh front p lets)))
    spaced e has fits front None none =
        let is : out.leaves ≡ None =
        out_is ∙ ap (λ z. out_of z number.message) has ∙ ap (λ w. option_map (declare_with (number_declare (shift_by o t) id)) (option_map (λ v. body.DeclareKeyExpr id v) w)) (number_wire e part ∙ ap (option_map (with_text (plain part))) none) in
        let h = has_exit (gate_at q gates) e has in
        let kept : gate_at q (with_given out gates) ≡ Some (kept_by number.message h.gate) = mine_given q out gates h.gate (same_face to.0 q mine) h.there (ap (λ l. is_none l && true) is) in
        let exit : exit_of (gate_at q (with_given out gates)) ≡ Some (record e { heads = with_head id part e.heads }) = ap exit_of kept ∙ ap (option_map (λ x. left_of x number.message)) h.space in
        number_by None is refl refl (subst (λ z. Fits z k'.numbers known) (sym exit) (number_stays e k.numbers known fits id part fresh front none))

    pub number_hears : Hears q text (number ∷ hs) gates known keys rs
    number_hears = by (exit_of (gate_at q gates)) refl ready.fits
      where
        by : (x : Option ExitState) → exit_of (gate_at q gates) ≡ x → Fits x k.numbers known → Hears q text (number ∷ hs) gates known keys rs
        by None has fits =
            let is : out.leaves ≡ Some number.message = out_is ∙ ap (λ z. out_of z number.message) has in
            number_by (Some number.message) is refl refl
            (subst (λ z. Fits z k'.numbers (knows known number.message)) (sym (ap exit_of (gate_stays number.message is) ∙ has))
            (ap (λ y. record known { ours = with_id known.ours id y }) (full_plainly part) ∙ ap (λ (z : FaceNaming). record z { ours = with_id z.ours id part }) fits))
        by (Some e) has fits =
            let n : shift_by o t ≡ behind e.ns t = sym (shifts (gate_at q gates) o t (ready.space refl)) ∙ ap (λ z. shift z t) has in
            spaced e has fits
            (λ p lets. front_left e.ns t part p fits.plain (subst (IsFrontOf part) n (nonwild_front (shift_by o t) some)) (strips e.ns part p lets)) (leaving e.ns part) refl

-- ---- one thing that is told
-- the message of what is told, by the whole text of its key
abbrev pub told_message : Telling → TellingBody → Message
told_message t (key_told id text info) = message.Declare (record { interest = t.interest; node = t.node; body = body.DeclareQueryable id (plain text) info })
told_message t (key_ended id None) = message.Declare (record { interest = t.interest; node = t.node; body = body.UndeclareQueryable id None })
told_message t (key_ended id (Some text)) = message.Declare (record { interest = t.interest; node = t.node; body = body.UndeclareQueryable id (Some (plain text)) })
told_message t all_told = message.Declare (record { interest = t.interest; node = t.node; body = body.DeclareFinal })

-- what a face is told
abbrev pub told_to : ℕ → List Telling → List Message
told_to q [] = []
told_to q (t ∷ ts) = cond (t.to.0 == q) (told_message t t.body ∷ told_to q ts) (told_to q ts)

-- what is told of a key is told of one
abbrev pub tells_key : TellingBody → Type 0
tells_key (key_told id text info) = is_key text ≡ true
tells_key (key_ended id None) = Unit {0}
tells_key (key_ended id (Some text)) = is_key text ≡ true
tells_key all_told = Unit {0}

module _ (q : ℕ) (o : Option (List ℕ)) (text : List ℕ) where
  -- a declaration with an expression of a key
  module _ (to : FaceId) (make : WireExpr → Declare)
      (goes : (e : ExitState) (w : WireExpr) → out_of (Some e) (message.Declare (make w)) ≡ option_map (λ v. message.Declare (make v)) (wire_out e.ns e.heads w))
      (full : (known : FaceNaming) (w : WireExpr) → message_in_full known (message.Declare (make w)) ≡ Some (message.Declare (make (in_full known w))))
      (quiet : (known : FaceNaming) (w : WireExpr) → knows known (message.Declare (make w)) ≡ known)
      (t : List ℕ) (key : is_key t ≡ true) (keys : Option FaceKeys) (rs : List Message) where
    -- by an expression that reads as the text
    declared_mine : (to.0 == q) ≡ true → (w : WireExpr) (hs : List Handed) (gates : Gates) (k : FaceKeys) (known : FaceNaming) → Ready o (Some k) (gate_at q gates) known → read_by k.numbers w ≡ said.Full (shift_by o t)
        → Hears q text hs gates known keys rs → Hears q text (declared to (make w) ∷ hs) gates known keys (message.Declare (make (plain t)) ∷ rs)
    declared_mine mine w hs gates k known ready says rest =
        let shifted : said.Full (shift_by o t) ≡ said.Full (shift (exit_of (gate_at q gates)) t) = ap said.Full (sym (shifts (gate_at q gates) o t (ready.space refl))) in
        let g = goes_out (exit_of (gate_at q gates)) k.numbers known ready.fits (λ v. message.Declare (make v)) w t (λ e has. goes e w) key (says ∙ shifted) in
        let leaves : (through text gates (declared to (make w))).leaves ≡ Some (message.Declare (make g.wire)) =
        ap (λ f. leaves_by (gate_at f gates) text (message.Declare (make w))) (same_face to.0 q mine) ∙ declare_out (gate_at q gates) text (make w) ∙ g.leaves in
        hears_mine q text (declared to (make w)) hs gates known keys (message.Declare (make g.wire)) (message.Declare (make (plain t))) rs mine leaves
        (full known g.wire ∙ ap (λ v. Some (message.Declare (make v))) g.reads) (quiet known g.wire) rest

    -- with a number before it, if one is new
    key_mine : (mine : (to.0 == q) ≡ true) (names : NamingState) (gates : Gates) (k : FaceKeys) (known : FaceNaming) → naming_at q names ≡ Some k → Ready o (Some k) (gate_at q gates) known
        → (rest : NamingState → List Handed) (d : DeclKey) (new : Option ℕ)
        → ((id : ℕ) → new ≡ Some id → IsNew k.numbers (shift_by o t) id)
        → read_by (with_declared k.numbers (shift_by o t) new) d.wire ≡ said.Full (shift_by o t)
        → ((g : Gates) (kn : FaceNaming) → Ready o (naming_at q (tell_number to (shift_by o t) new names).names) (gate_at q g) kn → Hears q text (rest (tell_number to (shift_by o t) new names).names) g kn keys rs)
        → Hears q text ((and_then (tell_number to (shift_by o t) new names) (tell_declare to (make d.wire))).handed ++ rest (tell_number to (shift_by o t) new names).names) gates known keys (message.Declare (make (plain t)) ∷ rs)
    key_mine mine names gates k known there ready rest d None news says more =
        declared_mine mine d.wire (rest names) gates k known ready says (more gates known (subst (λ z. Ready o z (gate_at q gates) known) (sym there) ready))
    key_mine mine names gates k known there ready rest d (Some id) news says more =
        let new = news id refl in
        let k1 : FaceKeys = with_told_number (shift_by o t) (Some id) k in
        let after = change_naming to.0 (with_told_number (shift_by o t) (Some id)) names in
        let now : naming_at q after ≡ Some k1 =
        ap (naming_at q) (naming_changed to.0 (with_told_number (shift_by o t) (Some id)) names)
        ∙ found_here to.0 (with_told_number (shift_by o t) (Some id)) names.faces q (ap (λ f. is_at (nat_cmp f) q) (same_face to.0 q mine) ∙ itself q)
        ∙ ap (option_map (with_told_number (shift_by o t) (Some id))) there in
        number_hears q o text to mine t id k known gates (next_unused k.numbers.theirs k.numbers.ours id new.next) new.part ready (declared to (make d.wire) ∷ rest after) keys (message.Declare (make (plain t)) ∷ rs)
        (λ g kn r. declared_mine mine d.wire (rest after) g k1 kn r says (more g kn (subst (λ z. Ready o z (gate_at q g) kn) (sym now) r)))

    -- to another face
    key_other : (to.0 == q) ≡ false → (names : NamingState) (gates : Gates) (known : FaceNaming) → Ready o (naming_at q names) (gate_at q gates) known
        → (rest : NamingState → List Handed) (d : DeclKey) (new : Option ℕ)
        → ((g : Gates) (kn : FaceNaming) → Ready o (naming_at q (tell_number to (shift_by o t) new names).names) (gate_at q g) kn → Hears q text (rest (tell_number to (shift_by o t) new names).names) g kn keys rs)
        → Hears q text ((and_then (tell_number to (shift_by o t) new names) (tell_declare to (make d.wire))).handed ++ rest (tell_number to (shift_by o t) new names).names) gates known keys rs
    key_other other names gates known ready rest d None more =
        let h = declared to (make d.wire) in
        hears_other q text h (rest names) gates known keys rs other
        (more (with_given (through text gates h) gates) known (subst (λ z. Ready o (naming_at q names) z known) (sym (other_given q (through text gates h) gates other)) ready))
    key_other other names gates known ready rest d (Some id) more =
        let after = change_naming to.0 (with_told_number (shift_by o t) (Some id)) names in
        let h = declared to (number_declare (shift_by o t) id) in
        let g1 = with_given (through text gates h) gates in
        let i = declared to (make d.wire) in
        let g2 = with_given (through text g1 i) g1 in
        let same : naming_at q after ≡ naming_at q names =
        ap (naming_at q) (naming_changed to.0 (with_told_number (shift_by o t) (Some id)) names) ∙ found_other to.0 (with_told_number (shift_by o t) (Some id)) names.faces q (number_test to.0 q ∙ other) in
        let gate : gate_at q g2 ≡ gate_at q gates = other_given q (through text g1 i) g1 other ∙ other_given q (through text gates h) gates other in
        hears_other q text h (i ∷ rest after) gates known keys rs other
        (hears_other q text i (rest after) g1 known keys rs other
        (more g2 known (subst (λ z. Ready o z (gate_at q g2) known) (sym same) (subst (λ z. Ready o (naming_at q names) z known) (sym gate) ready))))

    -- a key is told
    key_hears : (c : Core) (names : NamingState) (gates : Gates) (known : FaceNaming) → is_some (naming_at to.0 names) ≡ true → Ready o (naming_at q names) (gate_at q gates) known
        → (rest : NamingState → List Handed)
        → ((g : Gates) (kn : FaceNaming) → Ready o (naming_at q (tell_number to (shift_by o t) (told_key c to (shift_by o t) names).declared names).names) (gate_at q g) kn
        → Hears q text (rest (tell_number to (shift_by o t) (told_key c to (shift_by o t) names).declared names).names) g kn keys rs)
        → Hears q text ((and_then (tell_number to (shift_by o t) (told_key c to (shift_by o t) names).declared names) (tell_declare to (make (told_key c to (shift_by o t) names).wire))).handed ++ rest (tell_number to (shift_by o t) (told_key c to (shift_by o t) names).declared names).names)
        gates known keys (cond (to.0 == q) (message.Declare (make (plain t)) ∷ rs) rs)
    key_hears c names gates known there ready rest more = by (to.0 == q) refl
      where
        d : DeclKey
        d = told_key c to (shift_by o t) names

        Goal : List Message → Type 0
        Goal l = Hears q text ((and_then (tell_number to (shift_by o t) d.declared names) (tell_declare to (make d.wire))).handed ++ rest (tell_number to (shift_by o t) d.declared names).names) gates known keys l

        here : (mine : (to.0 == q) ≡ true) (x : Option FaceKeys) → naming_at q names ≡ x → Ready o x (gate_at q gates) known → Goal (message.Declare (make (plain t)) ∷ rs)
        here mine None none r = absurd (false≢true (sym (ap is_some none) ∙ ap (λ f. is_some (naming_at f names)) (sym (same_face to.0 q mine)) ∙ there))
        here mine (Some k) is r =
            let face : face_naming to.0 names ≡ k.numbers = ap (λ f. face_naming f names) (same_face to.0 q mine) ∙ ap numbers_in is in
            key_mine mine names gates k known is r rest d d.declared
            (λ id e. subst (λ n. IsNew n (shift_by o t) id) face (new_is (face_naming to.0 names) (is_local_face to c) (may_number to (nonwild (shift_by o t)) c) (shift_by o t) id e))
            (ap (λ n. read_by (with_declared n (shift_by o t) d.declared) d.wire) (sym face) ∙ key_reads (face_naming to.0 names) (shift_by o t) (shift_some o t (key_some t key)) (is_local_face to c) (may_number to (nonwild (shift_by o t)) c))
            more

        by : (b : Bool) → (to.0 == q) ≡ b → Goal (cond b (message.Declare (make (plain t)) ∷ rs) rs)
        by true mine = here mine (naming_at q names) refl ready
        by false other = key_other other names gates known ready rest d d.declared more

  -- a declaration without an expression
  bare_hears : (to : FaceId) (d : Declare) (hs : List Handed) (gates : Gates) (keys now : Option FaceKeys) (known : FaceNaming) (rs : List Message)
      → ((e : ExitState) → e.queryables ≡ [] → out_of (Some e) (message.Declare d) ≡ Some (message.Declare d)) → message_in_full known (message.Declare d) ≡ Some (message.Declare d) → knows known (message.Declare d) ≡ known
      → (to.0 ≡ q → is_some now ≡ true) → Ready o now (gate_at q gates) known
      → ((g : Gates) (kn : FaceNaming) → Ready o now (gate_at q g) kn → Hears q text hs g kn keys rs)
      → Hears q text (declared to d ∷ hs) gates known keys (cond (to.0 == q) (message.Declare d ∷ rs) rs)
  bare_hears to d hs gates keys now known rs goes full quiet there ready more = by (to.0 == q) refl
    where
      h : Handed
      h = declared to d

      goes_by : (x : Option ExitState) (k : FaceKeys) → Fits x k.numbers known → out_of x (message.Declare d) ≡ Some (message.Declare d)
      goes_by None k fits = refl
      goes_by (Some e) k fits = goes e fits.queryables

      here : (mine : (to.0 == q) ≡ true) (x : Option FaceKeys) → now ≡ x → FaceFits x (gate_at q gates) known → out_of (exit_of (gate_at q gates)) (message.Declare d) ≡ Some (message.Declare d)
      here mine None none fits = absurd (false≢true (sym (ap is_some none) ∙ there (same_face to.0 q mine)))
      here mine (Some k) is fits = goes_by (exit_of (gate_at q gates)) k fits

      by : (b : Bool) → (to.0 == q) ≡ b → Hears q text (declared to d ∷ hs) gates known keys (cond b (message.Declare d ∷ rs) rs)
      by true mine =
          hears_mine q text h hs gates known keys (message.Declare d) (message.Declare d) rs mine
          (ap (λ f. leaves_by (gate_at f gates) text (message.Declare d)) (same_face to.0 q mine) ∙ declare_out (gate_at q gates) text d ∙ here mine now refl ready.fits) full quiet (more gates known ready)
      by false other =
          hears_other q text h hs gates known keys rs other
          (more (with_given (through text gates h) gates) known (subst (λ z. Ready o now z known) (sym (other_given q (through text gates h) gates other)) ready))

  -- one thing
  one_hears : (c : Core) (t : Telling) (b : TellingBody) (names : NamingState) (gates : Gates) (known : FaceNaming) (keys : Option FaceKeys) (rs : List Message) → is_some (naming_at t.to.0 names) ≡ true → tells_key b → Ready o (naming_at q names) (gate_at q gates) known
      → (rest : NamingState → List Handed)
      → ((g : Gates) (kn : FaceNaming) → Ready o (naming_at q (tell_body c t (move_told (shift_by o) b) names).names) (gate_at q g) kn → Hears q text (rest (tell_body c t (move_told (shift_by o) b) names).names) g kn keys rs)
      → Hears q text ((tell_body c t (move_told (shift_by o) b) names).handed ++ rest (tell_body c t (move_told (shift_by o) b) names).names) gates known keys (cond (t.to.0 == q) (told_message t b ∷ rs) rs)
  one_hears c t (key_told id u info) names gates known keys rs there key ready rest more =
      key_hears t.to (λ w. record { interest = t.interest; node = t.node; body = body.DeclareQueryable id w info })
      (λ e w. fused (λ v. body.DeclareQueryable id v info) (λ b. message.Declare (record { interest = t.interest; node = t.node; body = b })) (wire_out e.ns e.heads w)) (λ kn w. refl) (λ kn w. refl)
      u key keys rs c names gates known there ready rest more
  one_hears c t (key_ended id None) names gates known keys rs there key ready rest more =
      bare_hears t.to (record { interest = t.interest; node = t.node; body = body.UndeclareQueryable id None }) (rest names) gates keys (naming_at q names) known rs
      (λ e none. ap (λ ids. option_map (declare_with (record { interest = t.interest; node = t.node; body = body.UndeclareQueryable id None })) (cond (has_id id ids) None (Some (body.UndeclareQueryable id None)))) none) refl refl
      (λ same. ap (λ f. is_some (naming_at f names)) (sym same) ∙ there) ready more
  one_hears c t (key_ended id (Some u)) names gates known keys rs there key ready rest more =
      key_hears t.to (λ w. record { interest = t.interest; node = t.node; body = body.UndeclareQueryable id (Some w) })
      (λ e w. fused (λ v. body.UndeclareQueryable id (Some v)) (λ b. message.Declare (record { interest = t.interest; node = t.node; body = b })) (wire_out e.ns e.heads w)) (λ kn w. refl) (λ kn w. refl)
      u key keys rs c names gates known there ready rest more
  one_hears c t all_told names gates known keys rs there key ready rest more =
      bare_hears t.to (record { interest = t.interest; node = t.node; body = body.DeclareFinal }) (rest names) gates keys (naming_at q names) known rs
      (λ e none. refl) refl refl
      (λ same. ap (λ f. is_some (naming_at f names)) (sym same) ∙ there) ready more

  -- all that is told, one after another
  pub told_hears : (c : Core) (ts : List Telling) (names : NamingState) (gates : Gates) (known : FaceNaming) → AllByRecursion (CanBeTold names) (map (move_telling (shift_by o)) ts) → AllByRecursion (λ (t : Telling). tells_key t.body) ts
      → Ready o (naming_at q names) (gate_at q gates) known
      → Hears q text (tell c (map (move_telling (shift_by o)) ts) names).handed gates known (naming_at q (tell c (map (move_telling (shift_by o)) ts) names).names) (told_to q ts)
  told_hears c [] names gates known can keys ready = hears_none q text gates known (naming_at q names) ready.fits
  told_hears c (t ∷ ts) names gates known can keys ready =
      let us = map (move_telling (shift_by o)) ts in
      let names1 = (tell_body c t (move_told (shift_by o) t.body) names).names in
      one_hears c t t.body names gates known (naming_at q (tell c us names1).names) (told_to q ts) can.0.0 keys.0 ready (λ z. (tell c us z).handed)
      (λ g kn r. told_hears c ts names1 g kn (all_open c (move_telling (shift_by o) t) names us can.1) keys.1 r)
