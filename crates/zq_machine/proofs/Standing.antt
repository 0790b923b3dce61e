-- What the gateway has of each face, and of the lists of gateways, is what the calls of the run and their answers make of it.
use Rattle.std.proofs.Common.{◌≡◌, ◌∙◌, refl, sym, ap, subst, ℕ, Bool, true, false, cond, List, [], ◌∷◌, ◌++◌, Option, Some, None, ◌⊎◌, inl, inr, unwrap_or}
use Rattle.std.specs.Prelude.{◌==◌}
use Rattle.std.proofs.lemmas.List.Sums.{fold-append}
use Rattle.std.specs.List.Sorted.{IsStrictlySortedBy}
use Rattle.std.specs.Map.{keys_of, remove_entry}
use Rattle.std.specs.BTreeMap.{insert_entry, is_at}
use Rattle.std.specs.Option.{is_some, option_and_then, option_map, option_map_or}
use Rattle.std.specs.Ordering.{nat_cmp}
use Rattle.zq_message.specs.declared.message.Declare.{Declare}
use Rattle.zq_message.specs.declared.message.DeclareBody.TheVariants as body
use Rattle.zq_message.specs.declared.message.FaceId.{FaceId}
use Rattle.zq_message.specs.declared.message.Region.{Region}
use Rattle.zq_message.specs.declared.message.WireExpr.{WireExpr}
use Rattle.zq_message.specs.declared.message.Zid.{Zid}
use Rattle.zq_names.specs.Texts.{nonwild}
use Rattle.zq_message.specs.Region.{region_index}
use Rattle.zq_tables.specs.declared.decl.DeclKey.{DeclKey}
use Rattle.zq_strategy.specs.State.{FaceState, HatState}
use Rattle.zq_strategy.specs.Kept.{change_face, declare, face_at, new_face, withdraw, without_face}
use Rattle.zq_strategy.specs.Marks.{marked}
use Rattle.zq_strategy.specs.declared.types.Strategy.{Strategy}
use Rattle.zq_strategy.specs.declared.types.Strategy.TheVariants as strategy
use Rattle.zq_strategy.specs.Regions.{in_routers, strategy_at}
use Rattle.zq_strategy.specs.Entries.{staying}
use Rattle.zq_strategy.specs.Nets.{is_listed}
use Rattle.zq_strategy.specs.Routers.{announced, networked, retracted, source_at}
use Rattle.zq_message.specs.RegionMap.{value_at}
use Rattle.zq_tables.specs.Naming.{FaceKeys, FaceNaming, NamingState, change_naming, closed_naming, face_naming, naming_at, no_keys, opened_naming, said_of, with_name, with_queryable, with_told_number, without_name, without_queryable, with_interest, without_interest}
use Rattle.zq_machine.specs.declared.call.Call.{Call}
use Rattle.zq_machine.specs.declared.call.Call.TheVariants as call
use Rattle.zq_machine.specs.declared.call.Opening.{Opening}
use Rattle.zq_machine.specs.declared.face.OpenFace.{OpenFace}
use Rattle.zq_machine.specs.Agreeing.{stands_in}
use Rattle.zq_machine.specs.Configs.{Settings}
use Rattle.zq_machine.specs.Gates.{Gate, Gates, denied_by, entered_by, gate_at, gate_for, space_of, unasked_by, with_gate}
use Rattle.zq_machine.specs.Deciding.{accepted, announced_by, causes, granted, is_accepted, opened, refusal_of, retracted_by, seat, told_of}
use Rattle.zq_machine.specs.Machine.{accepted_state, after, state_after, step, steps_from}
use Rattle.zq_machine.specs.Selecting.{full_text}
use Rattle.zq_machine.specs.Standing.{Standing, accepted_at, declaring_at, heard_all, heard_at, heard_body, kept_at, routes_in, text_said, with_kept, listed_after, listed_in, newly_opened, standing_after, standing_at, standing_in, standing_of}
use Rattle.zq_machine.specs.Hearing.{with_ours}
use Rattle.zq_machine.specs.Messages.{Telling, TellingBody, TextMessage, all_told, key_ended, key_told, text_final, text_reply, text_request}
use Rattle.zq_machine.specs.Writing.{Told, and_then, finish, tell, tell_body, tell_by, tell_declare, tell_number, told_key, write, written}
use Rattle.zq_machine.specs.State.{Core, State, at, change_hat, first_hats, hat_at, is_region, is_routing, joined, opening_state, put_hat}
use Rattle.zq_machine.specs.TextCalls.{TextCall, announcing, by_router, closing, declaring, finalizing, opening, read, retracting, said, said_or_none, tabling, withdrawing}
use Rattle.zq_machine.proofs.Agreed.{InOrder, granted_in_order, next_absent, stays_in_order, opened_face, opening_in_order}
use Rattle.zq_machine.proofs.Agreeing.{Tied, some_of}
use Rattle.zq_machine.proofs.Always.{after_kept}
use Rattle.zq_machine.proofs.Changing.{face_here, face_other, found_here, found_other, hat_either, hat_here, itself, naming_changed, number_test, one_number, region_there}
use Rattle.zq_machine.proofs.Finals.{is_there}
use Rattle.zq_machine.proofs.Gates.{Gated, denied_for, denied_left, gate_goes, gate_joins, space_for, space_left, unasked_for, unasked_left}
use Rattle.zq_machine.proofs.GoingOut.{fold_ended, fold_out}
use Rattle.zq_machine.proofs.Hats.{AreHatsOf, bare}
use Rattle.zq_machine.proofs.Joining.{home, in_faces, in_hat, in_names, left_in_faces, left_in_hat, left_in_names, own}
use Rattle.zq_machine.proofs.Granted.{all_passed, by_granted, granted_is_accepted, told_by}
use Rattle.zq_machine.proofs.Reading.{declare_read, withdraw_read}
use Rattle.zq_machine.proofs.Writing.{with_told}

-- what the hats have of a face that was opened so
abbrev kept_by : ℕ → List (ℕ × HatState) → Option OpenFace → Option FaceState
kept_by q hats o = option_and_then (face_at q) (option_and_then (λ (x : OpenFace). hat_at x.region hats) o)

-- what its gate and three lists have of a face
abbrev stand : ℕ → Gates → List (ℕ × OpenFace) → List (ℕ × HatState) → NamingState → Option Standing
stand q gates faces hats names = standing_of (gate_at q gates) (at q faces) (naming_at q names) (kept_by q hats (at q faces))

whole : (q : ℕ) (o : OpenFace) (n : FaceKeys) (f : FaceState) (gates : Gates) (faces : List (ℕ × OpenFace)) (hats : List (ℕ × HatState)) (names : NamingState)
    → at q faces ≡ Some o → naming_at q names ≡ Some n → kept_by q hats (Some o) ≡ Some f
    → stand q gates faces hats names ≡ Some (record { opened = o; space = space_of (gate_at q gates); denied = denied_by (gate_at q gates); unasked = unasked_by (gate_at q gates); numbers = n.numbers; kept = f })
whole q o n f gates faces hats names o_at n_at f_at = λ j. standing_of (gate_at q gates) (o_at j) (n_at j) ((ap (kept_by q hats) o_at ∙ f_at) j)

-- what stands by the namespace and the deny lists of the gate alone
abbrev seen_by : Option (List ℕ) → List (List ℕ) → List (List ℕ) → Option OpenFace → Option FaceKeys → Option FaceState → Option Standing
seen_by space denied unasked (Some o) (Some n) (Some f) = Some (record { opened = o; space = space; denied = denied; unasked = unasked; numbers = n.numbers; kept = f })
seen_by space denied unasked o n f = None

-- ---- one hat is changed
module _ (place : Region) (first : HatState) (g : HatState → HatState) (hats : List (ℕ × HatState)) (here : hat_at place hats ≡ Some first) where
  kept_same : (q : ℕ) → face_at q (g first) ≡ face_at q first → (o : Option OpenFace) → kept_by q (change_hat place g hats) o ≡ kept_by q hats o
  kept_same q same None = refl
  kept_same q same (Some o) = by (hat_either place first g hats here o.region)
    where
      by : (hat_at o.region (change_hat place g hats) ≡ hat_at o.region hats) ⊎ ((hat_at o.region hats ≡ Some first) × (hat_at o.region (change_hat place g hats) ≡ Some (g first)))
          → option_and_then (face_at q) (hat_at o.region (change_hat place g hats)) ≡ option_and_then (face_at q) (hat_at o.region hats)
      by (inl e) = ap (option_and_then (face_at q)) e
      by (inr e) = ap (option_and_then (face_at q)) e.1 ∙ same ∙ sym (ap (option_and_then (face_at q)) e.0)

-- what is changed at one number alone
by_number : (face q : ℕ) (now was : ℕ → Option Standing) (change : Option Standing → Option Standing) → now face ≡ change (was face) → (is_at (nat_cmp face) q ≡ false → now q ≡ was q) → now q ≡ cond (face == q) (change (was q)) (was q)
by_number face q now was change here others = by (is_at (nat_cmp face) q) refl ∙ ap (λ b. cond b (change (was q)) (was q)) (number_test face q)
  where
    by : (b : Bool) → is_at (nat_cmp face) q ≡ b → now q ≡ cond (is_at (nat_cmp face) q) (change (was q)) (was q)
    by true e = subst (λ m. now m ≡ change (was m)) (one_number face q e) here ∙ ap (λ b. cond b (change (was q)) (was q)) (sym e)
    by false e = others e ∙ ap (λ b. cond b (change (was q)) (was q)) (sym e)

-- ---- an open face declares, withdraws or is marked
module _ (gates : Gates) (faces : List (ℕ × OpenFace)) (hats : List (ℕ × HatState)) (names : NamingState) (t : Tied faces hats names) (face : ℕ) (o : OpenFace) (seen : at face faces ≡ Some o) where
  pub its_hat : (h : HatState) × (hat_at o.region hats ≡ Some h)
  its_hat = some_of (hat_at o.region hats) (t.homes face o seen)

  pub its_keys : (n : FaceKeys) × (naming_at face names ≡ Some n)
  its_keys = some_of (naming_at face names) (t.named face ∙ ap is_some seen)

  pub its_kept : (f : FaceState) × (face_at face its_hat.0 ≡ Some f)
  its_kept = some_of (face_at face its_hat.0)
      (t.seats o.region its_hat.0 face its_hat.1 ∙ ap (λ x. option_map_or (stands_in o.region) x false) seen ∙ sym (number_test (region_index o.region) (region_index o.region)) ∙ itself (region_index o.region))

  kept_is : kept_by face hats (Some o) ≡ Some its_kept.0
  kept_is = ap (option_and_then (face_at face)) its_hat.1 ∙ its_kept.1

  abbrev pub before : Standing
  before = record { opened = o; space = space_of (gate_at face gates); denied = denied_by (gate_at face gates); unasked = unasked_by (gate_at face gates); numbers = its_keys.0.numbers; kept = its_kept.0 }

  pub stands_so : stand face gates faces hats names ≡ Some before
  stands_so = whole face o its_keys.0 its_kept.0 gates faces hats names seen its_keys.1 kept_is

  naming_here : (g : FaceKeys → FaceKeys) → naming_at face (change_naming face g names) ≡ Some (g its_keys.0)
  naming_here g = ap (λ (l : NamingState). naming_at face l) (naming_changed face g names) ∙ found_here face g names.faces face (itself face) ∙ ap (option_map g) its_keys.1

  naming_other : (g : FaceKeys → FaceKeys) (q : ℕ) → is_at (nat_cmp face) q ≡ false → naming_at q (change_naming face g names) ≡ naming_at q names
  naming_other g q e = ap (λ (l : NamingState). naming_at q l) (naming_changed face g names) ∙ found_other face g names.faces q e

  abbrev hats_with : (FaceState → FaceState) → List (ℕ × HatState)
  hats_with k = change_hat o.region (change_face face k) hats

  kept_here : (k : FaceState → FaceState) → kept_by face (hats_with k) (Some o) ≡ Some (k its_kept.0)
  kept_here k =
      ap (option_and_then (face_at face)) (hat_here o.region its_hat.0 (change_face face k) hats its_hat.1)
      ∙ face_here face k its_hat.0 face (itself face)
      ∙ ap (option_map k) its_kept.1

  kept_other : (k : FaceState → FaceState) (q : ℕ) → is_at (nat_cmp face) q ≡ false → kept_by q (hats_with k) (at q faces) ≡ kept_by q hats (at q faces)
  kept_other k q e = kept_same o.region its_hat.0 (change_face face k) hats its_hat.1 q (face_other face k its_hat.0 q e) (at q faces)

  -- what a call of the face makes there, and elsewhere nothing
  module _ (config : Settings) (c : Call) (q : ℕ) (more : List (ℕ × HatState)) (others : NamingState) (n : FaceKeys) (f : FaceState)
      (n_at : naming_at face others ≡ Some n) (f_at : kept_by face more (Some o) ≡ Some f)
      (n_other : is_at (nat_cmp face) q ≡ false → naming_at q others ≡ naming_at q names) (f_other : is_at (nat_cmp face) q ≡ false → kept_by q more (at q faces) ≡ kept_by q hats (at q faces))
      (makes : record before { numbers = n.numbers; kept = f } ≡ declaring_at config c before) where
    declared_stands : stand q gates faces more others ≡ cond (face == q) (option_map (declaring_at config c) (stand q gates faces hats names)) (stand q gates faces hats names)
    declared_stands =
        by_number face q (λ m. stand m gates faces more others) (λ m. stand m gates faces hats names) (option_map (declaring_at config c))
        (whole face o n f gates faces more others seen n_at f_at ∙ ap Some makes ∙ sym (ap (option_map (declaring_at config c)) stands_so))
        (λ e j. standing_of (gate_at q gates) (at q faces) (n_other e j) (f_other e j))

  -- the numbers of the face are those by which its expressions are read
  pub numbers_are : face_naming face names ≡ its_keys.0.numbers
  numbers_are = ap (λ x. (unwrap_or x no_keys).numbers) its_keys.1

-- ---- a face is opened or closed
module _ (config : Settings) (gates : Gates) (next : ℕ) (gated : Gated gates next) (faces : List (ℕ × OpenFace)) (hats : List (ℕ × HatState)) (names : NamingState) (t : Tied faces hats names) (a : AreHatsOf config hats) (q : ℕ) where
  abbrev told : ℕ
  told = config.start.told

  opened_stands : (n : ℕ) → next ≡ n → (o : Opening) → at n faces ≡ None → is_some (hat_at o.region hats) ≡ true
      → stand q (with_gate n (gate_for o) gates) (insert_entry nat_cmp faces n (opened o)) (change_hat o.region (joined (seat n o)) hats) (opened_naming n names) ≡ cond (n == q) (Some (newly_opened told q o)) (stand q gates faces hats names)
  opened_stands n is_next o absent has = by (is_at (nat_cmp n) q) refl ∙ ap (λ b. cond b (Some (newly_opened told q o)) (stand q gates faces hats names)) (number_test n q)
    where
      place : (h : HatState) × (hat_at o.region hats ≡ Some h)
      place = home faces hats names t n o absent has

      now : ℕ → Option Standing
      now m = stand m (with_gate n (gate_for o) gates) (insert_entry nat_cmp faces n (opened o)) (change_hat o.region (joined (seat n o)) hats) (opened_naming n names)

      first_told : place.0.told_start ≡ told
      first_told = a.starts (region_index o.region) place.0 (region_there o.region hats place.0 place.1).1

      kept_new : kept_by n (change_hat o.region (joined (seat n o)) hats) (Some (opened o)) ≡ Some (new_face (seat n o) told)
      kept_new =
          ap (option_and_then (face_at n)) (hat_here o.region place.0 (joined (seat n o)) hats place.1)
          ∙ in_hat faces hats names t n o absent has n
          ∙ ap (λ b. cond b (Some (new_face (seat n o) place.0.told_start)) (face_at n place.0)) (itself n)
          ∙ ap (λ m. Some (new_face (seat n o) m)) first_told

      gates_are : (m : ℕ) → gate_at m (with_gate n (gate_for o) gates) ≡ cond (n == m) (gate_for o) (gate_at m gates)
      gates_are m = subst (λ k. gate_at m (with_gate k (gate_for o) gates) ≡ cond (k == m) (gate_for o) (gate_at m gates)) is_next (gate_joins gates next gated (gate_for o) m)

      gate_here : gate_at n (with_gate n (gate_for o) gates) ≡ gate_for o
      gate_here = gates_are n ∙ ap (λ b. cond b (gate_for o) (gate_at n gates)) (sym (number_test n n) ∙ itself n)

      here : now n ≡ Some (newly_opened told n o)
      here = (whole n (opened o) no_keys (new_face (seat n o) told) (with_gate n (gate_for o) gates) _ _ (opened_naming n names)
          (in_faces faces hats names t n o absent has n ∙ ap (λ b. cond b (Some (opened o)) (at n faces)) (itself n))
          (in_names faces hats names t n o absent has n ∙ ap (λ b. cond b (Some no_keys) (naming_at n names)) (itself n))
          kept_new)
          ∙ (λ j. Some (record (newly_opened told n o) { space = (ap space_of gate_here ∙ space_for o) j; denied = (ap denied_by gate_here ∙ denied_for o) j; unasked = (ap unasked_by gate_here ∙ unasked_for o) j }))

      others : is_at (nat_cmp n) q ≡ false → now q ≡ stand q gates faces hats names
      others e = λ j. standing_of ((gates_are q ∙ ap (λ b. cond b (gate_for o) (gate_at q gates)) (sym (number_test n q) ∙ e)) j) (faces_same j) ((in_names faces hats names t n o absent has q ∙ ap (λ b. cond b (Some no_keys) (naming_at q names)) e) j) (kept_old j)
        where
          faces_same : at q (insert_entry nat_cmp faces n (opened o)) ≡ at q faces
          faces_same = in_faces faces hats names t n o absent has q ∙ ap (λ b. cond b (Some (opened o)) (at q faces)) e

          kept_old : kept_by q (change_hat o.region (joined (seat n o)) hats) (at q (insert_entry nat_cmp faces n (opened o))) ≡ kept_by q hats (at q faces)
          kept_old =
              ap (kept_by q (change_hat o.region (joined (seat n o)) hats)) faces_same
              ∙ kept_same o.region place.0 (joined (seat n o)) hats place.1 q (in_hat faces hats names t n o absent has q ∙ ap (λ b. cond b (Some (new_face (seat n o) place.0.told_start)) (face_at q place.0)) e) (at q faces)

      by : (b : Bool) → is_at (nat_cmp n) q ≡ b → now q ≡ cond (is_at (nat_cmp n) q) (Some (newly_opened told q o)) (stand q gates faces hats names)
      by true e = subst (λ m. now m ≡ Some (newly_opened told m o)) (one_number n q e) here ∙ ap (λ b. cond b (Some (newly_opened told q o)) (stand q gates faces hats names)) (sym e)
      by false e = others e ∙ ap (λ b. cond b (Some (newly_opened told q o)) (stand q gates faces hats names)) (sym e)

  closed_stands : (face : ℕ) (o : OpenFace) → at face faces ≡ Some o → IsStrictlySortedBy nat_cmp (keys_of faces)
      → stand q (remove_entry (is_at (nat_cmp face)) gates) (remove_entry (is_at (nat_cmp face)) faces) (change_hat o.region (without_face face) hats) (closed_naming face names) ≡ cond (face == q) None (stand q gates faces hats names)
  closed_stands face o seen sorted = by (is_at (nat_cmp face) q) refl ∙ ap (λ b. cond b None (stand q gates faces hats names)) (number_test face q)
    where
      place : (h : HatState) × (hat_at o.region hats ≡ Some h)
      place = own faces hats names t sorted face o seen

      now : Option Standing
      now = stand q (remove_entry (is_at (nat_cmp face)) gates) (remove_entry (is_at (nat_cmp face)) faces) (change_hat o.region (without_face face) hats) (closed_naming face names)

      gone : is_at (nat_cmp face) q ≡ true → now ≡ None
      gone e = ap (λ x. standing_of (gate_at q (remove_entry (is_at (nat_cmp face)) gates)) x (naming_at q (closed_naming face names)) (kept_by q (change_hat o.region (without_face face) hats) (at q (remove_entry (is_at (nat_cmp face)) faces))))
          (left_in_faces faces hats names t sorted face o seen q ∙ ap (λ b. cond b None (at q faces)) e)

      others : is_at (nat_cmp face) q ≡ false → now ≡ stand q gates faces hats names
      others e = λ j. standing_of ((gate_goes gates next gated face q ∙ ap (λ b. cond b None (gate_at q gates)) (sym (number_test face q) ∙ e)) j) (faces_same j) ((left_in_names faces hats names t sorted face o seen q ∙ ap (λ b. cond b None (naming_at q names)) e) j) (kept_old j)
        where
          faces_same : at q (remove_entry (is_at (nat_cmp face)) faces) ≡ at q faces
          faces_same = left_in_faces faces hats names t sorted face o seen q ∙ ap (λ b. cond b None (at q faces)) e

          kept_old : kept_by q (change_hat o.region (without_face face) hats) (at q (remove_entry (is_at (nat_cmp face)) faces)) ≡ kept_by q hats (at q faces)
          kept_old =
              ap (kept_by q (change_hat o.region (without_face face) hats)) faces_same
              ∙ kept_same o.region place.0 (without_face face) hats place.1 q (left_in_hat faces hats names t sorted face o seen q ∙ ap (λ b. cond b None (face_at q place.0)) e) (at q faces)

      by : (b : Bool) → is_at (nat_cmp face) q ≡ b → now ≡ cond (is_at (nat_cmp face) q) None (stand q gates faces hats names)
      by true e = gone e ∙ ap (λ b. cond b None (stand q gates faces hats names)) (sym e)
      by false e = others e ∙ ap (λ b. cond b None (stand q gates faces hats names)) (sym e)

-- ---- numbers that are declared to faces
module _ (q : ℕ) where
  either : (b : Bool) (st : Standing) → cond b st st ≡ st
  either true st = refl
  either false st = refl

  one_heard : (names : NamingState) (m : TextMessage) (st : Standing) → heard_at q st (written names m) ≡ st
  one_heard names (text_request r) st = either (r.to.0 == q) st
  one_heard names (text_reply r) st = either (r.to.0 == q) st
  one_heard names (text_final f) st = either (f.asker.0 == q) st

  -- messages of requests declare none
  written_heard : (names : NamingState) (ms : List TextMessage) (st : Standing) → heard_all q (write names ms) st ≡ st
  written_heard names [] st = refl
  written_heard names (m ∷ ms) st = ap (λ x. heard_all q (write names ms) x) (one_heard names m st) ∙ written_heard names ms st

  -- a number stands for the part of a text without a `*`
  abbrev more : List ℕ → ℕ → Standing → Standing
  more text id st = record st { numbers = with_ours id (nonwild text) st.numbers }

  module _ (g : Option Gate) (o : Option OpenFace) (f : Option FaceState) where
    abbrev with_names : NamingState → Option Standing
    with_names names = standing_of g o (naming_at q names) f

    -- what is told makes of what stands what the face hears of it
    abbrev Hears : NamingState → Told → Type 0
    Hears names w = with_names w.names ≡ option_map (heard_all q w.handed) (with_names names)

    same_map : (x : Option Standing) → x ≡ option_map (λ st. st) x
    same_map None = refl
    same_map (Some st) = refl

    mapped_twice : (k h : Standing → Standing) (x : Option Standing) → option_map h (option_map k x) ≡ option_map (λ st. h (k st)) x
    mapped_twice k h None = refl
    mapped_twice k h (Some st) = refl

    both_hear : (names : NamingState) (w : Told) (next : NamingState → Told) → Hears names w → Hears w.names (next w.names) → Hears names (and_then w next)
    both_hear names w next one two =
        two
        ∙ ap (option_map (heard_all q (next w.names).handed)) one
        ∙ mapped_twice (heard_all q w.handed) (heard_all q (next w.names).handed) (with_names names)
        ∙ (λ j. option_map (λ st. sym (fold-append (heard_at q) st w.handed (next w.names).handed) j) (with_names names))

    -- a declaration of no number
    quiet_hears : (to : FaceId) (d : Declare) (names : NamingState) → ((st : Standing) → heard_body d.body st ≡ st) → Hears names (tell_declare to d names)
    quiet_hears to d names quiet = same_map (with_names names) ∙ (λ j. option_map (λ st. sym (by st (to.0 == q)) j) (with_names names))
      where
        by : (st : Standing) (b : Bool) → cond b (heard_body d.body st) st ≡ st
        by st true = quiet st
        by st false = refl

    more_by : (text : List ℕ) (id : ℕ) (x : Option OpenFace) (n : Option FaceKeys) (y : Option FaceState) → standing_of g x (option_map (with_told_number text (Some id)) n) y ≡ option_map (more text id) (standing_of g x n y)
    more_by text id None n y = refl
    more_by text id (Some x) None y = refl
    more_by text id (Some x) (Some n) None = refl
    more_by text id (Some x) (Some n) (Some y) = refl

    number_hears : (to : FaceId) (text : List ℕ) (x : Option ℕ) (names : NamingState) → Hears names (tell_number to text x names)
    number_hears to text None names = same_map (with_names names)
    number_hears to text (Some id) names = by (is_at (nat_cmp to.0) q) refl
      where
        by : (b : Bool) → is_at (nat_cmp to.0) q ≡ b → Hears names (tell_number to text (Some id) names)
        by true e =
            ap (λ n. standing_of g o n f) (ap (λ (l : NamingState). naming_at q l) (naming_changed to.0 (with_told_number text (Some id)) names) ∙ found_here to.0 (with_told_number text (Some id)) names.faces q e)
            ∙ more_by text id o (naming_at q names) f
            ∙ (λ j. option_map (λ st. cond ((sym e ∙ number_test to.0 q) j) (more text id st) st) (with_names names))
        by false e =
            ap (λ n. standing_of g o n f) (ap (λ (l : NamingState). naming_at q l) (naming_changed to.0 (with_told_number text (Some id)) names) ∙ found_other to.0 (with_told_number text (Some id)) names.faces q e)
            ∙ same_map (with_names names)
            ∙ (λ j. option_map (λ st. cond ((sym e ∙ number_test to.0 q) j) (more text id st) st) (with_names names))

    key_hears : (c : Core) (to : FaceId) (text : List ℕ) (make : DeclKey → Declare) (names : NamingState) → ((k : DeclKey) (st : Standing) → heard_body (make k).body st ≡ st) → Hears names (tell_by c to text make names)
    key_hears c to text make names quiet =
        let k = told_key c to text names in
        both_hear names (tell_number to text k.declared names) (tell_declare to (make k)) (number_hears to text k.declared names)
        (quiet_hears to (make k) (tell_number to text k.declared names).names (quiet k))

    body_hears : (c : Core) (t : Telling) (b : TellingBody) (names : NamingState) → Hears names (tell_body c t b names)
    body_hears c t (key_told id text info) names = key_hears c t.to text (λ k. record { interest = t.interest; node = t.node; body = body.DeclareQueryable id k.wire info }) names (λ k st. refl)
    body_hears c t (key_ended id None) names = quiet_hears t.to (record { interest = t.interest; node = t.node; body = body.UndeclareQueryable id None }) names (λ st. refl)
    body_hears c t (key_ended id (Some text)) names = key_hears c t.to text (λ k. record { interest = t.interest; node = t.node; body = body.UndeclareQueryable id (Some k.wire) }) names (λ k st. refl)
    body_hears c t all_told names = quiet_hears t.to (record { interest = t.interest; node = t.node; body = body.DeclareFinal }) names (λ st. refl)

    tell_hears : (c : Core) (ts : List Telling) (names : NamingState) → Hears names (tell c ts names)
    tell_hears c [] names = same_map (with_names names)
    tell_hears c (t ∷ ts) names = both_hear names (tell_body c t t.body names) (tell c ts) (body_hears c t t.body names) (tell_hears c ts (tell_body c t t.body names).names)

  -- and so it is of a step
  told_stands : (s : State) (t : TextCall) (ms : List TextMessage)
      → standing_at q (with_told (accepted_state s t) (told_by s t)) ≡ option_map (heard_all q (write s.names ms ++ (told_by s t).handed)) (standing_at q (accepted_state s t))
  told_stands s t ms =
      let z = accepted_state s t in
      tell_hears (gate_at q z.gates) (at q z.core.faces) (kept_at q z.core) z.core (told_of s.core t) z.names
      ∙ (λ j. option_map (λ st. heard_all q (told_by s t).handed (sym (written_heard s.names ms st) j)) (standing_at q z))
      ∙ (λ j. option_map (λ st. sym (fold-append (heard_at q) st (write s.names ms) (told_by s t).handed) j) (standing_at q z))

-- ---- each call that nothing refuses
module _ (config : Settings) (q : ℕ) (s : State) (i : InOrder config s) where
  abbrev its_hats : (HatState → HatState) → Option OpenFace → List (ℕ × HatState)
  its_hats f x = option_map_or (λ (o : OpenFace). change_hat o.region f s.core.hats) x s.core.hats

  abbrev Makes : Call → List (ℕ × HatState) → NamingState → FaceId → Type 0
  Makes c hats names f = stand q s.gates s.core.faces hats names ≡ cond (f.0 == q) (option_map (declaring_at config c) (standing_at q s)) (standing_at q s)

  module _ (f : FaceId) (x : (o : OpenFace) × (at f.0 s.core.faces ≡ Some o)) where
    abbrev was : Standing
    was = before s.gates s.core.faces s.core.hats s.names i.tied f.0 x.0 x.1

    -- an expression as it is read: behind the namespace of the face
    abbrev enters : WireExpr → WireExpr
    enters w = entered_by (space_of (gate_at f.0 s.gates)) w

    abbrev makes_there : (c : Call) (more : List (ℕ × HatState)) (others : NamingState) (n : FaceKeys) (k : FaceState)
        → naming_at f.0 others ≡ Some n → kept_by f.0 more (Some x.0) ≡ Some k
        → (is_at (nat_cmp f.0) q ≡ false → naming_at q others ≡ naming_at q s.names) → (is_at (nat_cmp f.0) q ≡ false → kept_by q more (at q s.core.faces) ≡ kept_by q s.core.hats (at q s.core.faces))
        → record was { numbers = n.numbers; kept = k } ≡ declaring_at config c was
        → Makes c more others f
    makes_there c = declared_stands s.gates s.core.faces s.core.hats s.names i.tied f.0 x.0 x.1 config c q

    abbrev keys : FaceKeys
    keys = (its_keys s.gates s.core.faces s.core.hats s.names i.tied f.0 x.0 x.1).0

    abbrev keeps : FaceState
    keeps = (its_kept s.gates s.core.faces s.core.hats s.names i.tied f.0 x.0 x.1).0

    abbrev reads : face_naming f.0 s.names ≡ keys.numbers
    reads = numbers_are s.gates s.core.faces s.core.hats s.names i.tied f.0 x.0 x.1

    -- its numbers are changed
    renamed_stands : (c : Call) (g : FaceKeys → FaceKeys) → record was { numbers = (g keys).numbers } ≡ declaring_at config c was
        → Makes c s.core.hats (change_naming f.0 g s.names) f
    renamed_stands c g makes =
        makes_there c s.core.hats (change_naming f.0 g s.names) (g keys) keeps
        (naming_here s.gates s.core.faces s.core.hats s.names i.tied f.0 x.0 x.1 g) (kept_is s.gates s.core.faces s.core.hats s.names i.tied f.0 x.0 x.1)
        (naming_other s.gates s.core.faces s.core.hats s.names i.tied f.0 x.0 x.1 g q) (λ e. refl) makes

    -- what its hat keeps of it is changed, and its keys with it or not
    kept_stands : (c : Call) (k : FaceState → FaceState) (others : NamingState) (n : FaceKeys)
        → naming_at f.0 others ≡ Some n → (is_at (nat_cmp f.0) q ≡ false → naming_at q others ≡ naming_at q s.names)
        → record was { numbers = n.numbers; kept = k keeps } ≡ declaring_at config c was
        → Makes c (its_hats (change_face f.0 k) (at f.0 s.core.faces)) others f
    kept_stands c k others n n_at n_other makes =
        subst (λ hats. Makes c hats others f) (sym (ap (its_hats (change_face f.0 k)) x.1))
        (makes_there c (change_hat x.0.region (change_face f.0 k) s.core.hats) others n (k keeps) n_at
        (kept_here s.gates s.core.faces s.core.hats s.names i.tied f.0 x.0 x.1 k) n_other (kept_other s.gates s.core.faces s.core.hats s.names i.tied f.0 x.0 x.1 k q) makes)

  -- the face's region is one of routers where the configuration says so
  routing_kept : (o : Option HatState) → option_map_or is_routing o false ≡ option_map_or is_routing (option_map bare o) false
  routing_kept None = refl
  routing_kept (Some h) = refl

  pub routing_is : (r : Region) → option_map_or is_routing (hat_at r s.core.hats) false ≡ routes_in config r
  routing_is r = by (is_region r)
    where
      by : (b : Bool) → option_map_or is_routing (cond b (value_at s.core.hats r) None) false ≡ option_map_or is_routing (cond b (value_at (first_hats config) r) None) false
      by true =
          routing_kept (at (region_index r) s.core.hats)
          ∙ ap (λ o. option_map_or is_routing o false) (i.hats.shape (region_index r))
          ∙ sym (routing_kept (at (region_index r) (first_hats config)))
      by false = refl

  -- a hat is changed, but not in its faces
  same_faces_stand : (r : Region) (g : HatState → HatState) → ((h : HatState) → (g h).faces ≡ h.faces) → stand q s.gates s.core.faces (change_hat r g s.core.hats) s.names ≡ standing_at q s
  same_faces_stand r g same = by (hat_at r s.core.hats) refl
    where
      by : (o : Option HatState) → hat_at r s.core.hats ≡ o → stand q s.gates s.core.faces (change_hat r g s.core.hats) s.names ≡ standing_at q s
      by None e = ap (λ o. stand q s.gates s.core.faces (put_hat r g s.core.hats o) s.names) e
      by (Some first) e = λ j. standing_of (gate_at q s.gates) (at q s.core.faces) (naming_at q s.names) (kept_same r first g s.core.hats e q (ap (λ (l : List (ℕ × FaceState)). at q l) (same first)) (at q s.core.faces) j)

  module _ (f : FaceId) (x : (o : OpenFace) × (at f.0 s.core.faces ≡ Some o)) where
    pub region_says : (b : Bool) → by_router f s.core ≡ b → routes_in config x.0.region ≡ b
    region_says b e = sym (ap (λ y. option_map_or is_routing (option_and_then (λ (o : OpenFace). hat_at o.region s.core.hats) y) false) x.1 ∙ routing_is x.0.region) ∙ e

    -- what a router declares leaves what stands of the face
    routed_stands : (c : Call) (g : HatState → HatState) → ((h : HatState) → (g h).faces ≡ h.faces)
        → before s.gates s.core.faces s.core.hats s.names i.tied f.0 x.0 x.1 ≡ declaring_at config c (before s.gates s.core.faces s.core.hats s.names i.tied f.0 x.0 x.1)
        → Makes c (its_hats g (at f.0 s.core.faces)) s.names f
    routed_stands c g same stays =
        subst (λ hats. Makes c hats s.names f) (sym (ap (its_hats g) x.1))
        (same_faces_stand x.0.region g same
        ∙ by_number f.0 q (λ m. standing_at m s) (λ m. standing_at m s) (option_map (declaring_at config c))
        (stands_so s.gates s.core.faces s.core.hats s.names i.tied f.0 x.0 x.1 ∙ ap Some stays ∙ sym (ap (option_map (declaring_at config c)) (stands_so s.gates s.core.faces s.core.hats s.names i.tied f.0 x.0 x.1)))
        (λ e. refl))

  source_faces : (o : Option Zid) (g : Zid → HatState) (h : HatState) → ((z : Zid) → (g z).faces ≡ h.faces) → (option_map_or g o h).faces ≡ h.faces
  source_faces None g h same = refl
  source_faces (Some z) g h same = same z

  network_faces : (k : Strategy) (x h : HatState) → x.faces ≡ h.faces → (in_routers k x h).faces ≡ h.faces
  network_faces strategy.Broker x h same = refl
  network_faces strategy.Client x h same = refl
  network_faces strategy.Peer x h same = refl
  network_faces strategy.Router x h same = same

  -- a call that makes nothing of what stands of its face
  still : (c : Call) (b : Bool) → ((st : Standing) → declaring_at config c st ≡ st) → cond b (option_map (declaring_at config c) (standing_at q s)) (standing_at q s) ≡ standing_at q s
  still c false same = refl
  still c true same = by (standing_at q s)
    where
      by : (o : Option Standing) → option_map (declaring_at config c) o ≡ o
      by None = refl
      by (Some st) = ap Some (same st)

  granted_stands : (c : Call) → refusal_of s.core (read s c) ≡ None → standing_at q (accepted_state s (read s c)) ≡ accepted_at config q c (granted s.core (read s c)).outcome (standing_at q s)
  granted_stands (call.Open o) h =
      opened_stands config s.gates s.core.next_face i.gated s.core.faces s.core.hats s.names i.tied i.hats q s.core.next_face refl o (next_absent s i.sound) (is_there (is_some (hat_at o.region s.core.hats)) (all_passed (causes s.core (opening o)) h).0)
  granted_stands (call.Close f) h =
      let x = opened_face s i.sound i.tied f.0 (all_passed (causes s.core (closing f)) h).0 in
      subst (λ hats. stand q (remove_entry (is_at (nat_cmp f.0)) s.gates) (remove_entry (is_at (nat_cmp f.0)) s.core.faces) hats (closed_naming f.0 s.names) ≡ cond (f.0 == q) None (standing_at q s)) (sym (ap (its_hats (without_face f.0)) x.1))
      (closed_stands config s.gates s.core.next_face i.gated s.core.faces s.core.hats s.names i.tied i.hats q f.0 x.0 x.1 i.sound.sorted)
  granted_stands (call.DeclareKeyExpr f id w) h =
      let x = opened_face s i.sound i.tied f.0 (all_passed (causes s.core (read s (call.DeclareKeyExpr f id w))) h).0 in
      renamed_stands f x (call.DeclareKeyExpr f id w) (with_name id (full_text (said f w s)))
      (ap (λ (m : FaceNaming). record (was f x) { numbers = (with_name id (full_text (said_of m (enters f x w))) (keys f x)).numbers }) (reads f x))
  granted_stands (call.UndeclareKeyExpr f id) h =
      let x = opened_face s i.sound i.tied f.0 (all_passed (causes s.core (read s (call.UndeclareKeyExpr f id))) h).0 in
      renamed_stands f x (call.UndeclareKeyExpr f id) (without_name id) refl
  granted_stands (call.DeclareQueryable f id w info node) h = by (by_router f s.core) refl h
    where
      c : Call
      c = call.DeclareQueryable f id w info node

      text : List ℕ
      text = full_text (said f w s)

      g : FaceKeys → FaceKeys
      g = with_queryable id text

      by : (b : Bool) → by_router f s.core ≡ b → refusal_of s.core (cond b (announcing f (said f w s) info node) (declaring f id (said f w s) info node)) ≡ None
          → standing_at q (accepted_state s (cond b (announcing f (said f w s) info node) (declaring f id (said f w s) info node))) ≡ cond (f.0 == q) (option_map (declaring_at config c) (standing_at q s)) (standing_at q s)
      by true e k =
          let x = opened_face s i.sound i.tied f.0 (all_passed (causes s.core (announcing f (said f w s) info node)) k).0 in
          let was_here = before s.gates s.core.faces s.core.hats s.names i.tied f.0 x.0 x.1 in
          routed_stands f x c (announced_by f.0 node text info) (λ y. source_faces (source_at f.0 node y) (λ z. announced z.0 text info y) y (λ z. refl))
          (sym (ap (λ b. cond b was_here (with_kept was_here (declare id (text_said was_here w) info was_here.kept))) (region_says f x true e)))
      by false e k =
          let x = opened_face s i.sound i.tied f.0 (all_passed (causes s.core (declaring f id (said f w s) info node)) k).0 in
          let was_here = before s.gates s.core.faces s.core.hats s.names i.tied f.0 x.0 x.1 in
          kept_stands f x c (declare id text info) (change_naming f.0 g s.names) (g (keys f x))
          (naming_here s.gates s.core.faces s.core.hats s.names i.tied f.0 x.0 x.1 g) (naming_other s.gates s.core.faces s.core.hats s.names i.tied f.0 x.0 x.1 g q)
          (ap (λ (m : FaceNaming). record was_here { kept = declare id (full_text (said_of m (enters f x w))) info (keeps f x) }) (reads f x)
          ∙ sym (ap (λ b. cond b was_here (with_kept was_here (declare id (text_said was_here w) info was_here.kept))) (region_says f x false e)))
  granted_stands (call.UndeclareQueryable f id w node) h = by (by_router f s.core) refl h
    where
      c : Call
      c = call.UndeclareQueryable f id w node

      by : (b : Bool) → by_router f s.core ≡ b → refusal_of s.core (cond b (retracting f (said_or_none f w s) node) (withdrawing f id)) ≡ None
          → standing_at q (accepted_state s (cond b (retracting f (said_or_none f w s) node) (withdrawing f id))) ≡ cond (f.0 == q) (option_map (declaring_at config c) (standing_at q s)) (standing_at q s)
      by true e k =
          let x = opened_face s i.sound i.tied f.0 (all_passed (causes s.core (retracting f (said_or_none f w s) node)) k).0 in
          let was_here = before s.gates s.core.faces s.core.hats s.names i.tied f.0 x.0 x.1 in
          routed_stands f x c (retracted_by f.0 node (full_text (said_or_none f w s))) (λ y. source_faces (source_at f.0 node y) (λ z. retracted z.0 (full_text (said_or_none f w s)) y) y (λ z. refl))
          (sym (ap (λ b. cond b was_here (with_kept was_here (withdraw id was_here.kept))) (region_says f x true e)))
      by false e k =
          let x = opened_face s i.sound i.tied f.0 (all_passed (causes s.core (withdrawing f id)) k).0 in
          let was_here = before s.gates s.core.faces s.core.hats s.names i.tied f.0 x.0 x.1 in
          kept_stands f x c (withdraw id) (change_naming f.0 (without_queryable id) s.names) (without_queryable id (keys f x))
          (naming_here s.gates s.core.faces s.core.hats s.names i.tied f.0 x.0 x.1 (without_queryable id)) (naming_other s.gates s.core.faces s.core.hats s.names i.tied f.0 x.0 x.1 (without_queryable id) q)
          (sym (ap (λ b. cond b was_here (with_kept was_here (withdraw id was_here.kept))) (region_says f x false e)))
  granted_stands (call.SetNetwork r net) h = same_faces_stand r (networked net) (λ y. network_faces (strategy_at y) (record y { network = net; entries = staying (is_listed net) y.entries }) y refl)
  granted_stands (call.SetNodeIds f ids) h =
      let x = opened_face s i.sound i.tied f.0 (all_passed (causes s.core (tabling f ids)) h).0 in
      kept_stands f x (call.SetNodeIds f ids) (λ k. record k { nodes = ids }) s.names (keys f x) (its_keys s.gates s.core.faces s.core.hats s.names i.tied f.0 x.0 x.1).1 (λ e. refl) refl
  granted_stands (call.FinalizeInterest f mark set) h =
      let x = opened_face s i.sound i.tied f.0 (all_passed (causes s.core (finalizing f mark set)) h).0 in
      kept_stands f x (call.FinalizeInterest f mark set) (marked mark set) s.names (keys f x) (its_keys s.gates s.core.faces s.core.hats s.names i.tied f.0 x.0 x.1).1 (λ e. refl) refl
  granted_stands (call.Interest f id numbers aggregate None) h = refl
  granted_stands (call.Interest f id numbers aggregate (Some w)) h =
      let x = opened_face s i.sound i.tied f.0 (all_passed (causes s.core (read s (call.Interest f id numbers aggregate (Some w)))) h).0 in
      renamed_stands f x (call.Interest f id numbers aggregate (Some w)) (with_interest id (full_text (said f w s))) refl ∙ still (call.Interest f id numbers aggregate (Some w)) (f.0 == q) (λ st. refl)
  granted_stands (call.InterestFinal f id) h =
      let x = opened_face s i.sound i.tied f.0 (all_passed (causes s.core (read s (call.InterestFinal f id))) h).0 in
      renamed_stands f x (call.InterestFinal f id) (without_interest id) refl ∙ still (call.InterestFinal f id) (f.0 == q) (λ st. refl)
  granted_stands c h = refl

  pub call_stands : (c : Call) → standing_at q (after s c) ≡ standing_after config q c (step s c) (standing_at q s)
  call_stands c =
      by_granted (λ t z. standing_at q z ≡ standing_after config q c t (standing_at q s)) s (read s c)
      (λ text z w it.
      (λ j. seen_by (space_left q text z.handed w.gates j) (denied_left q text z.handed w.gates j) (unasked_left q text z.handed w.gates j) (at q w.core.faces) (naming_at q w.names) (kept_at q w.core))
      ∙ it
      ∙ (λ j. cond (is_accepted z.outcome) (option_map (λ st. sym (fold_out text (heard_at q) (λ x h left. refl) z.handed w.gates st) j) (accepted_at config q c z.outcome (standing_at q s))) (standing_at q s)))
      (λ p places z w it.
      it
      ∙ (λ j. cond (is_accepted z.outcome) (option_map (λ st. sym (fold_ended (heard_at q) (λ x f. either q (f.asker.0 == q) x) z.handed (finish w.core (p ∷ places)).finals st) j) (accepted_at config q c z.outcome (standing_at q s))) (standing_at q s)))
      (λ h.
      told_stands q s (read s c) (granted s.core (read s c)).messages
      ∙ ap (option_map (heard_all q (write s.names (granted s.core (read s c)).messages ++ (told_by s (read s c)).handed))) (granted_stands c h)
      ∙ ap (λ b. cond b (option_map (heard_all q (write s.names (granted s.core (read s c)).messages ++ (told_by s (read s c)).handed)) (accepted_at config q c (granted s.core (read s c)).outcome (standing_at q s))) (standing_at q s)) (sym (granted_is_accepted s.core (read s c) h)))
      (λ r. refl)

-- ---- the lists of gateways
call_listed : (s : State) (c : Call) → (after s c).core.tables ≡ listed_after c (step s c) s.core.tables
call_listed s (call.SetGateways r table) = by_granted (λ t z. z.core.tables ≡ listed_after (call.SetGateways r table) t s.core.tables) s (read s (call.SetGateways r table)) (λ text z w it. it) (λ p places z w it. it) (λ h. refl) (λ x. refl)
call_listed s (call.DeclareQueryable face id wire info node) =
    by_granted (λ t z. z.core.tables ≡ s.core.tables) s (read s (call.DeclareQueryable face id wire info node)) (λ text z w it. it) (λ p places z w it. it) (λ h. declare_read (λ t. (accepted s.core t).tables ≡ s.core.tables) s face id wire info node refl refl) (λ x. refl)
call_listed s (call.UndeclareQueryable face id wire node) =
    by_granted (λ t z. z.core.tables ≡ s.core.tables) s (read s (call.UndeclareQueryable face id wire node)) (λ text z w it. it) (λ p places z w it. it) (λ h. withdraw_read (λ t. (accepted s.core t).tables ≡ s.core.tables) s face id wire node refl refl) (λ x. refl)
call_listed s c = by_granted (λ t z. z.core.tables ≡ s.core.tables) s (read s c) (λ text z w it. it) (λ p places z w it. it) (λ h. refl) (λ x. refl)

-- ---- a run
run_stands : (config : Settings) (q : ℕ) (cs : List Call) (s : State) → InOrder config s → standing_at q (state_after s cs) ≡ standing_in config q cs (steps_from s cs) (standing_at q s)
run_stands config q [] s i = refl
run_stands config q (c ∷ cs) s i =
    run_stands config q cs (after s c) (after_kept (InOrder config) (granted_in_order config) (stays_in_order config) s c i)
    ∙ ap (standing_in config q cs (steps_from (after s c) cs)) (call_stands config q s i c)

run_listed : (cs : List Call) (s : State) → (state_after s cs).core.tables ≡ listed_in cs (steps_from s cs) s.core.tables
run_listed [] s = refl
run_listed (c ∷ cs) s = run_listed cs (after s c) ∙ ap (listed_in cs (steps_from (after s c) cs)) (call_listed s c)

pub all_stand : (config : Settings) (calls : List Call) (face : ℕ) → standing_at face (state_after (opening_state config) calls) ≡ standing_in config face calls (steps_from (opening_state config) calls) None
all_stand config calls face = run_stands config face calls (opening_state config) (opening_in_order config)

pub all_listed : (config : Settings) (calls : List Call) → (state_after (opening_state config) calls).core.tables ≡ listed_in calls (steps_from (opening_state config) calls) []
all_listed config calls = run_listed calls (opening_state config)
