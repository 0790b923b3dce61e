-- A new gateway with its asker, and a storage that joins.
use Rattle.std.proofs.Common.{◌≡◌, ◌∙◌, refl, sym, ap, subst, ℕ, ◌+◌, ◌<◌, ◌^◌, true, false, List, [], ◌∷◌, ◌++◌, map, length, length-append, arith}
use Rattle.std.specs.Prelude.{◌==◌}
use Rattle.std.specs.List.{AllByRecursion}
use Rattle.std.proofs.lemmas.List.{map-append}
use Rattle.zq_key.specs.Key.{is_key}
use Rattle.zq_tables.specs.Naming.{plain}
use Rattle.zq_strategy.specs.Kept.{declare}
use Rattle.zq_strategy.specs.State.{FaceState}
use Rattle.zq_machine.specs.declared.call.Call.{Call}
use Rattle.zq_machine.specs.declared.call.Call.TheVariants as call
use Rattle.zq_machine.specs.declared.face.OpenFace.{OpenFace}
use Rattle.zq_machine.specs.Configs.{Settings, has_local}
use Rattle.zq_machine.specs.Deciding.{opened}
use Rattle.zq_machine.specs.Machine.{after}
use Rattle.zq_machine.specs.State.{State, opening_state}
use Rattle.zq_local.specs.Picking.{Seat}
use Rattle.zq_local.specs.Seated.{AreHats, AreNumbered, IsSeated, bare_face, hat_faces, hat_with, local_opening, open_entry, open_faces, seat_entry, seat_info}
use Rattle.zq_local.proofs.Ends.{AreBefore}
use Rattle.zq_local.proofs.First.{first_are}
use Rattle.zq_local.proofs.Joining.{IsLocal, Stands, declare_core, declare_gates, open_core, open_gates}

-- ---- a new gateway
module _ (config : Settings) (there : has_local config.entries ≡ true) (fits : (config.start.faces + 1 == 2 ^ 32) ≡ false) where
  at_first : Stands config [] config.start.faces [] config.start.requests config.start.replies (opening_state config).core
  at_first = record {
    of = refl;
    opens = refl;
    numbers = refl;
    hats = first_are config there;
    interests = refl;
    quiet = record { records = refl; closed = refl; asked = refl; replied = refl };
  }

  abbrev first : State
  first = after (opening_state config) (call.Open (local_opening config.zid))

  pub new_seated : IsSeated config.start.faces [] config.start.requests config.start.replies first
  new_seated =
      let st = open_core config [] config.start.faces [] config.start.requests config.start.replies (opening_state config) at_first refl tt tt tt fits in
      record {
        numbered = tt;
        next = let e = st.numbers in omega (arith, e);
        faces = subst (λ g. first.core.faces ≡ open_faces g.zid config.start.faces []) (sym st.of) st.opens;
        hats = subst (λ g. AreHats first.core.hats (hat_with g (hat_faces g config.start.faces []))) (sym st.of) st.hats;
        interests = st.interests;
        gates = open_gates config [] config.start.faces [] config.start.requests config.start.replies (opening_state config) at_first refl tt tt tt fits;
        quiet = st.quiet;
      }

-- ---- a storage joins
numbered_more : (n : ℕ) (ss : List Seat) (s : Seat) → AreNumbered n ss → s.face.0 ≡ n + length ss → AreNumbered n (ss ++ s ∷ [])
numbered_more n [] s all is = (omega (arith, is), tt)
numbered_more n (t ∷ ss) s all is = (all.0, numbered_more (n + 1) ss s all.1 (omega (arith, is)))

below_all : (n m : ℕ) (ss : List Seat) → AreNumbered n ss → n + length ss ≡ m → AllByRecursion (λ (s : Seat). s.face.0 < m) ss
below_all n m [] all is = tt
below_all n m (s ∷ ss) all is = (let e = all.0 in omega (arith, e, is), below_all (n + 1) m ss all.1 (omega (arith, is)))

opens_before : (config : Settings) (m : ℕ) (ss : List Seat) → AllByRecursion (λ (s : Seat). s.face.0 < m) ss → AreBefore m (map (open_entry config.zid) ss)
opens_before config m [] all = tt
opens_before config m (s ∷ ss) all = (all.0, opens_before config m ss all.1)

seats_before : (config : Settings) (m : ℕ) (ss : List Seat) → AllByRecursion (λ (s : Seat). s.face.0 < m) ss → AreBefore m (map (seat_entry config) ss)
seats_before config m [] all = tt
seats_before config m (s ∷ ss) all = (all.0, seats_before config m ss all.1)

all_local : (config : Settings) (ss : List Seat) → AllByRecursion IsLocal (map (open_entry config.zid) ss)
all_local config [] = tt
all_local config (s ∷ ss) = (refl, all_local config ss)

module _ (asker : ℕ) (ss : List Seat) (requests replies : ℕ) (s : State) (seated : IsSeated asker ss requests replies s) (n : ℕ) (is : n ≡ asker + 1 + length ss) (fits : (n + 1 == 2 ^ 32) ≡ false)
    (seat : Seat) (face : seat.face ≡ record { 0 = n }) (keyed : is_key seat.key ≡ true) where
  abbrev g : Settings
  g = s.core.config

  below : AllByRecursion (λ (t : Seat). t.face.0 < n) ss
  below = below_all (asker + 1) n ss seated.numbered (sym is)

  abbrev faces : List (ℕ × OpenFace)
  faces = open_faces g.zid asker ss

  abbrev seats : List (ℕ × FaceState)
  seats = hat_faces g asker ss

  faces_first : AreBefore n faces
  faces_first = (omega (arith, is), opens_before g n ss below)

  seats_first : AreBefore n seats
  seats_first = (omega (arith, is), seats_before g n ss below)

  locals : AllByRecursion IsLocal faces
  locals = (refl, all_local g ss)

  stands : Stands g faces n seats requests replies s.core
  stands = record { of = refl; opens = seated.faces; numbers = seated.next ∙ sym is; hats = seated.hats; interests = seated.interests; quiet = seated.quiet }

  abbrev open_state : State
  open_state = after s (call.Open (local_opening g.zid))

  abbrev declares : Call
  declares = call.DeclareQueryable (record { 0 = n }) 1 (plain seat.key) (seat_info seat) 0

  abbrev joined_state : State
  joined_state = after open_state declares

  pub joined_seated : IsSeated asker (ss ++ seat ∷ []) requests replies joined_state
  joined_seated =
      let it = open_core g faces n seats requests replies s stands seated.gates faces_first seats_first locals fits in
      let free = open_gates g faces n seats requests replies s stands seated.gates faces_first seats_first locals fits in
      let st = declare_core g faces n seats requests replies open_state it free faces_first seats_first locals seat.key keyed (seat_info seat) in
      let number : seat.face.0 ≡ n = ap (λ f. f.0) face in
      let all_faces : joined_state.core.faces ≡ open_faces g.zid asker (ss ++ seat ∷ []) =
      st.opens ∙ ap (λ l. (asker, opened (local_opening g.zid)) ∷ l) (ap (λ k. map (open_entry g.zid) ss ++ (k, opened (local_opening g.zid)) ∷ []) (sym number) ∙ sym (map-append (open_entry g.zid) ss (seat ∷ []))) in
      let all_seats : hat_with g (seats ++ (n, declare 1 seat.key (seat_info seat) (bare_face g n)) ∷ []) ≡ hat_with g (hat_faces g asker (ss ++ seat ∷ [])) =
      ap (λ l. hat_with g ((asker, bare_face g asker) ∷ l)) (ap (λ k. map (seat_entry g) ss ++ (k, declare 1 seat.key (seat_info seat) (bare_face g k)) ∷ []) (sym number) ∙ sym (map-append (seat_entry g) ss (seat ∷ []))) in
      record {
        numbered = numbered_more (asker + 1) ss seat seated.numbered (omega (arith, number, is));
        next = let e = st.numbers in let long = length-append ss (seat ∷ []) in omega (arith, e, is, long);
        faces = subst (λ c. joined_state.core.faces ≡ open_faces c.zid asker (ss ++ seat ∷ [])) (sym st.of) all_faces;
        hats = subst (λ c. AreHats joined_state.core.hats (hat_with c (hat_faces c asker (ss ++ seat ∷ [])))) (sym st.of) (subst (AreHats joined_state.core.hats) all_seats st.hats);
        interests = st.interests;
        gates = declare_gates g faces n seats requests replies open_state it free faces_first seats_first locals seat.key keyed (seat_info seat);
        quiet = st.quiet;
      }
