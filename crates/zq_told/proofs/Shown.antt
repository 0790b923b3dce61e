-- Faces shown without their rooms: what looks them up and changes them goes along.
use Rattle.std.proofs.Common.{◌≡◌, ◌∙◌, refl, sym, ap, subst, ℕ, Bool, true, false, cond, fold, List, [], Option, Some, None, get_or}
use Rattle.std.specs.List.{All}
use Rattle.std.specs.Option.{option_map, option_map_or}
use Rattle.std.specs.Map.{set_value}
use Rattle.std.proofs.lemmas.List.Elements.{All-from_get_or, All-get_or}
use Rattle.std.proofs.lemmas.Bool.{false≢true}
use Rattle.std.proofs.lemmas.Cmp.{nat_cmp_total}
use Rattle.std.proofs.lemmas.Map.Lookups.{exact_unsigned}
use Rattle.std.proofs.lemmas.Map.Made.{lookup-map_values}
use Rattle.std.proofs.lemmas.Map.Steps.{set_value_same}
use Rattle.std.specs.Option.{is_some}
use Rattle.std.specs.BTreeMap.{is_at}
use Rattle.std.specs.Ordering.{nat_cmp}
use Rattle.zq_key.proofs.Lookups.{at_itself, found_after_write, same_key}
use Rattle.zq_index.proofs.Mapped.{set-map}
use Rattle.zq_told.specs.declared.types.FacePlan.{FacePlan}
use Rattle.zq_index.specs.Texts.{at_text, has_text}
use Rattle.zq_told.specs.ToldSets.{ToldSet, Told, at_face}
use Rattle.zq_told.specs.Rooms.{AreBare, Book, Books, HasRooms, IsBare, IsBareAt, IsRoomy, Shelf, ear_of, ears_of, has_room, room_at}
use Rattle.zq_told.specs.Telling.{Row, planned_ear, put_face, put_row}

-- what holds of each holds of each in a weaker form
pub weaker : {X : Type 0} (P Q : X → Type 0) (d : X) (xs : List X) → ((x : X) → P x → Q x) → All P xs → All Q xs
weaker P Q d xs h all = All-from_get_or Q xs d (λ i lt. h (get_or xs i d) (All-get_or P xs i d lt all))

-- ---- a face's book is changed
pub shown_at : (n : ℕ) (books : Books) → at_face n (ears_of books) ≡ option_map ear_of (at_face n books)
shown_at n books = lookup-map_values ear_of (is_at (nat_cmp n)) books

no_row : Row
no_row = ([], None)

-- with fewer rooms, and the same told, what was bare stays so
pub bare_stays : (was now : Shelf) → now.told ≡ was.told → ((q : List ℕ) → has_room now q ≡ true → has_room was q ≡ true) → (r : Row) → IsBare was r → IsBare now r
bare_stays was now told fewer r bare h = ap (λ (t : Told). is_some (at_text r.0 t)) told ∙ bare (fewer r.0 h)

-- a face that is not there has no rooms
pub none_bare : (books : Books) (p : FacePlan) → at_face p.face.0 books ≡ None → IsBareAt books p
none_bare books p none b there = absurd (let gap : None ≡ Some b = sym none ∙ there in cc)

-- wider rooms
pub rooms_wider : (old new : Books) → ((n : ℕ) (q : List ℕ) → room_at old n q ≡ true → room_at new n q ≡ true) → (p : FacePlan) → HasRooms old p → HasRooms new p
rooms_wider old new others p = weaker (IsRoomy (room_at old p.face.0)) (IsRoomy (room_at new p.face.0)) no_row p.rows (λ r f h. others p.face.0 r.0 (f h))

-- a face that is not there needs no room
pub none_needed : (books : Books) (p : FacePlan) → at_face p.face.0 books ≡ None → HasRooms books p
none_needed books p none = All-from_get_or (IsRoomy (room_at books p.face.0)) p.rows no_row (λ i lt h. ap (λ o. option_map_or (λ (b : Book). has_room b.shelf (get_or p.rows i no_row).0) o true) none)

-- a plan of a face that is not there changes nothing
pub none_put : (books : Books) (p : FacePlan) → at_face p.face.0 books ≡ None → ears_of books ≡ put_face (ears_of books) p
none_put books p none = sym (ap (λ o. option_map_or (λ (e : ToldSet). set_value (is_at (nat_cmp p.face.0)) (ears_of books) (planned_ear p e)) o (ears_of books)) (shown_at p.face.0 books ∙ ap (option_map ear_of) none))

module _ (n : ℕ) (books : Books) (b : Book) (there : at_face n books ≡ Some b) where
  pub room_is : (q : List ℕ) → room_at books n q ≡ has_room b.shelf q
  room_is q = ap (λ o. option_map_or (λ (x : Book). has_room x.shelf q) o true) there

  module _ (c : Book) where
    abbrev written : Books
    written = set_value (is_at (nat_cmp n)) books c

    pub shown_written : ears_of written ≡ set_value (is_at (nat_cmp n)) (ears_of books) (ear_of c)
    shown_written = sym (set-map ear_of (is_at (nat_cmp n)) books c)

    pub shown_same : c.last ≡ b.last → c.shelf.told ≡ b.shelf.told → ears_of written ≡ ears_of books
    shown_same l t =
        shown_written
        ∙ ap (set_value (is_at (nat_cmp n)) (ears_of books)) (λ i. record { last = l i; told = t i })
        ∙ set_value_same (is_at (nat_cmp n)) (ears_of books) (ear_of b) (shown_at n books ∙ ap (option_map ear_of) there)

    pub shown_put : (p : FacePlan) → p.face.0 ≡ n → c.last ≡ p.last → c.shelf.told ≡ fold put_row b.shelf.told p.rows → ears_of written ≡ put_face (ears_of books) p
    shown_put p same l t =
        shown_written
        ∙ ap (set_value (is_at (nat_cmp n)) (ears_of books)) (λ i. record { last = l i; told = t i })
        ∙ sym (ap (λ o. option_map_or (λ (e : ToldSet). set_value (is_at (nat_cmp n)) (ears_of books) (planned_ear p e)) o (ears_of books)) (shown_at n books ∙ ap (option_map ear_of) there))
        ∙ ap (λ m. option_map_or (λ (e : ToldSet). set_value (is_at (nat_cmp m)) (ears_of books) (planned_ear p e)) (at_face m (ears_of books)) (ears_of books)) (sym same)

    some : is_some (at_face n books) ≡ true
    some = ap is_some there

    cond_by : (m : ℕ) (q : List ℕ) (x : Bool) (o : Option Book) → option_map_or (λ (y : Book). has_room y.shelf q) (cond x (Some c) o) true ≡ cond x (has_room c.shelf q) (option_map_or (λ (y : Book). has_room y.shelf q) o true)
    cond_by m q true o = refl
    cond_by m q false o = refl

    pub room_written : (m : ℕ) (q : List ℕ) → room_at written m q ≡ cond (is_at (nat_cmp n) m) (has_room c.shelf q) (room_at books m q)
    room_written m q =
        ap (λ o. option_map_or (λ (y : Book). has_room y.shelf q) o true) (found_after_write nat_cmp_total exact_unsigned n m c books some)
        ∙ cond_by m q (is_at (nat_cmp n) m) (at_face m books)

    wider_by : (m : ℕ) (q : List ℕ) (x : Bool) → is_at (nat_cmp n) m ≡ x → (has_room b.shelf q ≡ true → has_room c.shelf q ≡ true) → room_at books m q ≡ true → cond x (has_room c.shelf q) (room_at books m q) ≡ true
    wider_by m q true is h r = h (sym (room_is q) ∙ ap (λ j. room_at books j q) (same_key nat_cmp_total exact_unsigned n m is) ∙ r)
    wider_by m q false is h r = r

    pub room_wider : ((q : List ℕ) → has_room b.shelf q ≡ true → has_room c.shelf q ≡ true) → (m : ℕ) (q : List ℕ) → room_at books m q ≡ true → room_at written m q ≡ true
    room_wider h m q r = room_written m q ∙ wider_by m q (is_at (nat_cmp n) m) refl (h q) r

    same_by : (m : ℕ) (q : List ℕ) (x : Bool) → is_at (nat_cmp n) m ≡ x → has_room c.shelf q ≡ has_room b.shelf q → cond x (has_room c.shelf q) (room_at books m q) ≡ room_at books m q
    same_by m q true is h = h ∙ sym (room_is q) ∙ ap (λ j. room_at books j q) (same_key nat_cmp_total exact_unsigned n m is)
    same_by m q false is h = refl

    pub room_same : ((q : List ℕ) → has_room c.shelf q ≡ has_room b.shelf q) → (m : ℕ) (q : List ℕ) → room_at written m q ≡ room_at books m q
    room_same h m q = room_written m q ∙ same_by m q (is_at (nat_cmp n) m) refl (h q)

    itself : is_at (nat_cmp n) n ≡ true
    itself = at_itself nat_cmp_total exact_unsigned n

    -- what is bare at faces stays so where one has fewer rooms
    bare_by : (p : FacePlan) (x : Book) (t : Bool) → is_at (nat_cmp n) p.face.0 ≡ t → c.shelf.told ≡ b.shelf.told → ((q : List ℕ) → has_room c.shelf q ≡ true → has_room b.shelf q ≡ true) → IsBareAt books p
        → cond t (Some c) (at_face p.face.0 books) ≡ Some x → All (IsBare x.shelf) p.rows
    bare_by p x true is told fewer bare at =
        let one : c ≡ x = let both : Some c ≡ Some x = at in cc in
        let was = bare b (ap (λ m. at_face m books) (sym (same_key nat_cmp_total exact_unsigned n p.face.0 is)) ∙ there) in
        subst (λ (y : Book). All (IsBare y.shelf) p.rows) one (weaker (IsBare b.shelf) (IsBare c.shelf) no_row p.rows (bare_stays b.shelf c.shelf told fewer) was)
    bare_by p x false is told fewer bare at = bare x at

    pub bare_written : c.shelf.told ≡ b.shelf.told → ((q : List ℕ) → has_room c.shelf q ≡ true → has_room b.shelf q ≡ true) → (p : FacePlan) → IsBareAt books p → IsBareAt written p
    bare_written told fewer p bare x at = bare_by p x (is_at (nat_cmp n) p.face.0) refl told fewer bare (sym (found_after_write nat_cmp_total exact_unsigned n p.face.0 c books some) ∙ at)

    -- the face itself
    pub bare_here : (p : FacePlan) → p.face.0 ≡ n → All (IsBare c.shelf) p.rows → IsBareAt written p
    bare_here p same bare x at =
        let found : at_face p.face.0 written ≡ Some c = ap (λ m. at_face m written) same ∙ found_after_write nat_cmp_total exact_unsigned n n c books some ∙ ap (λ t. cond t (Some c) (at_face n books)) itself in
        let one : c ≡ x = let both : Some c ≡ Some x = sym found ∙ at in cc in
        subst (λ (y : Book). All (IsBare y.shelf) p.rows) one bare

    pub here : (q : List ℕ) → room_at written n q ≡ has_room c.shelf q
    here q = room_written n q ∙ ap (λ x. cond x (has_room c.shelf q) (room_at books n q)) itself

-- ---- a face comes without rooms, or goes

no_plan : FacePlan
no_plan = record { face = record { 0 = 0 }; last = 0; rows = [] }

-- what is bare at faces stays so where one becomes another book that has no rooms, or none
module _ (n : ℕ) (old new : Books) (o : Option Book) (empty : (b : Book) → o ≡ Some b → b.shelf.rooms ≡ []) (found : (q : ℕ) → at_face q new ≡ cond (is_at (nat_cmp n) q) o (at_face q old)) where
  bare_at : (p : FacePlan) → IsBareAt old p → IsBareAt new p
  bare_at p bare x at = by (is_at (nat_cmp n) p.face.0) (sym (found p.face.0) ∙ at)
    where
      none : o ≡ Some x → (r : Row) → IsBare x.shelf r
      none is r has = absurd (false≢true (ap (has_text r.0) (sym (empty x is)) ∙ has))

      by : (t : Bool) → cond t o (at_face p.face.0 old) ≡ Some x → All (IsBare x.shelf) p.rows
      by true is = All-from_get_or (IsBare x.shelf) p.rows no_row (λ i lt. none is (get_or p.rows i no_row))
      by false is = bare x is

  pub bare_changed : (plan : List FacePlan) → AreBare plan old → AreBare plan new
  bare_changed plan = weaker (IsBareAt old) (IsBareAt new) no_plan plan bare_at
