-- Each written value reads back.
use Rattle.std.proofs.Common.{◌≡◌, ℕ, ◌≤◌, ◌<◌, ◌^◌, List, [], ◌∷◌, ◌++◌, Option, Some, None, refl, arith, length, true, false, append_assoc, length-append}
use Rattle.std.specs.Prelude.{◌==◌, codes}
use Rattle.std.specs.Fmt.{decimal}
use Rattle.std.specs.List.{AllByRecursion}
use Rattle.zq_message.specs.declared.message.FaceId.{FaceId}
use Rattle.zq_message.specs.declared.message.Zid.{Zid}
use Rattle.zq_message.specs.declared.message.WireExpr.{WireExpr}
use Rattle.zq_message.specs.declared.message.Mapping.{Mapping}
use Rattle.zq_message.specs.declared.message.Mapping.TheVariants as mapping
use Rattle.zq_message.specs.declared.message.Mode.{Mode}
use Rattle.zq_message.specs.declared.message.Mode.TheVariants as mode
use Rattle.zq_message.specs.declared.message.Bound.{Bound}
use Rattle.zq_message.specs.declared.message.Bound.TheVariants as bound
use Rattle.zq_message.specs.declared.message.Region.{Region}
use Rattle.zq_message.specs.declared.message.Region.TheVariants as region
use Rattle.zq_message.specs.declared.message.QueryTarget.{QueryTarget}
use Rattle.zq_message.specs.declared.message.QueryTarget.TheVariants as target
use Rattle.zq_io.specs.Words.{is_digit, number, payload_word, list_of, list_word, lacks}
use Rattle.zq_io.specs.Values.{most_16, most_32, most_128, face_of, face_word, zid_of, zid_word, mode_of, mode_word, bound_of, bound_word, target_of, target_word, south_of, region_of, region_word, mapping_of, mapping_word, wire_of, wire_word, zids_of, zids_word, all_of, all_word, direction_of, direction_word}
use Rattle.zq_io.specs.Fits.{FitsFace, FitsZid, FitsWire, FitsOption, FitsRegion}
use Rattle.zq_io.proofs.Back.{lacks_append, cut_back, Reads, number_value, decimal_lacks, decimal_some, text_back, payload_lacks, space_escaped}
use Rattle.zq_io.proofs.Lists.{Piece, not_name, list_reads}

pub face_reads : (face : FaceId) → FitsFace face → Reads face_of (face_word face) face
face_reads face f = record {
  whole = decimal_lacks 32 face.0 (omega arith) refl;
  some = decimal_some face.0 (omega arith);
  value = rw (number_value most_32 face.0 f (omega arith)) refl;
}

pub zid_value : (zid : Zid) → FitsZid zid → zid_of (zid_word zid) ≡ Some zid
zid_value zid f = rw (number_value most_128 zid.0 f (omega arith)) refl

pub zid_reads : (zid : Zid) → FitsZid zid → Reads zid_of (zid_word zid) zid
zid_reads zid f = record { whole = decimal_lacks 32 zid.0 (omega arith) refl; some = decimal_some zid.0 (omega arith); value = zid_value zid f }

pub mode_reads : (m : Mode) → Reads mode_of (mode_word m) m
mode_reads mode.Router = record { whole = refl; some = omega arith; value = refl }
mode_reads mode.Peer = record { whole = refl; some = omega arith; value = refl }
mode_reads mode.Client = record { whole = refl; some = omega arith; value = refl }

pub bound_reads : (b : Bound) → Reads bound_of (bound_word b) b
bound_reads bound.North = record { whole = refl; some = omega arith; value = refl }
bound_reads bound.South = record { whole = refl; some = omega arith; value = refl }

pub target_reads : (t : QueryTarget) → Reads target_of (target_word t) t
target_reads target.All = record { whole = refl; some = omega arith; value = refl }
target_reads target.AllComplete = record { whole = refl; some = omega arith; value = refl }
target_reads target.BestMatching = record { whole = refl; some = omega arith; value = refl }

mapping_back : (m : Mapping) → mapping_of (mapping_word m) ≡ Some m
mapping_back mapping.Sender = refl
mapping_back mapping.Receiver = refl

mapping_lacks : (m : Mapping) → (lacks 58 (mapping_word m) ≡ true) × (lacks 32 (mapping_word m) ≡ true)
mapping_lacks mapping.Sender = (refl, refl)
mapping_lacks mapping.Receiver = (refl, refl)

-- a byte between two words
pub lacks_between : (byte other : ℕ) (u w : List ℕ) → (byte == other) ≡ false → lacks other u ≡ true → lacks other w ≡ true → lacks other (u ++ byte ∷ w) ≡ true
lacks_between byte other u w e f g = lacks_append other u (byte ∷ w) f (rw (e, g) refl)

pub some_between : (u w : List ℕ) (byte : ℕ) → 0 < length (u ++ byte ∷ w)
some_between u w byte = omega (arith, length-append {A = ℕ})

wire_value : (w : WireExpr) → FitsWire w → wire_of (wire_word w) ≡ Some w
unfolding wire_of
wire_value w f = simp append_assoc (
    rw (
      cut_back 58 (decimal w.scope) _ (decimal_lacks 58 w.scope (omega (arith, f.scope)) refl),
      number_value most_16 w.scope f.scope (omega arith),
      cut_back 58 (mapping_word w.mapping) (payload_word w.suffix) (mapping_lacks w.mapping).0,
      mapping_back w.mapping,
      text_back w.suffix f.suffix,
    ) refl)

pub wire_reads : (w : WireExpr) → FitsWire w → Reads wire_of (wire_word w) w
wire_reads w f = record {
  whole = lacks_between 58 32 (decimal w.scope ++ 58 ∷ mapping_word w.mapping) _ refl (lacks_between 58 32 (decimal w.scope) _ refl (decimal_lacks 32 w.scope (omega (arith, f.scope)) refl) (mapping_lacks w.mapping).1) (payload_lacks 32 w.suffix (omega arith) space_escaped);
  some = some_between (decimal w.scope ++ 58 ∷ mapping_word w.mapping) _ 58;
  value = wire_value w f;
}

south_value : (id : ℕ) (m : Mode) → id ≤ most_32 → region_of (region_word (region.South id m)) ≡ Some (region.South id m)
unfolding south_of
south_value id m f =
    rw (cut_back 58 (decimal id) (mode_word m) (decimal_lacks 58 id (omega arith) refl), number_value most_32 id f (omega arith), (mode_reads m).value) refl

pub region_reads : (r : Region) → FitsRegion r → Reads region_of (region_word r) r
region_reads region.North f = record { whole = refl; some = omega arith; value = refl }
region_reads region.Local f = record { whole = refl; some = omega arith; value = refl }
region_reads (region.South id m) f = record {
  whole = lacks_between 58 32 (codes "south" ++ 58 ∷ decimal id) (mode_word m) refl (lacks_between 58 32 (codes "south") (decimal id) refl refl (decimal_lacks 32 id (omega arith) refl)) (mode_reads m).whole;
  some = omega arith;
  value = south_value id m f;
}

-- lists
zid_piece : (byte : ℕ) (zid : Zid) → lacks byte (zid_word zid) ≡ true → FitsZid zid → Piece byte zid_of zid_word zid
zid_piece byte zid e f = record { apart = e; whole = decimal_lacks 32 zid.0 (omega arith) refl; some = decimal_some zid.0 (omega arith); value = zid_value zid f }

zid_pieces : (zids : List Zid) → AllByRecursion FitsZid zids → AllByRecursion (Piece 44 zid_of zid_word) zids
zid_pieces [] a = tt
zid_pieces (z ∷ zs) a = (zid_piece 44 z (decimal_lacks 44 z.0 (omega (arith, a.0)) refl) a.0, zid_pieces zs a.1)

pub zids_apart : (byte : ℕ) (zids : List Zid) → is_digit byte ≡ false → AllByRecursion FitsZid zids → AllByRecursion (λ z. lacks byte (zid_word z) ≡ true) zids
zids_apart byte [] e a = tt
zids_apart byte (z ∷ zs) e a = (decimal_lacks byte z.0 (omega (arith, a.0)) e, zids_apart byte zs e a.1)

pub zids_reads : (zids : List Zid) → AllByRecursion FitsZid zids → Reads zids_of (zids_word zids) zids
zids_reads zids a = list_reads 44 zid_of zid_word zids refl refl (zid_pieces zids a)

pub number_pieces : (most : ℕ) (ns : List ℕ) → most < 10 ^ 64 → AllByRecursion (λ n. n ≤ most) ns → AllByRecursion (Piece 44 (number most) decimal) ns
number_pieces most [] l a = tt
number_pieces most (n ∷ ns) l a =
    let fits : n ≤ most = a.0 in
    (record { apart = decimal_lacks 44 n (omega arith) refl; whole = decimal_lacks 32 n (omega arith) refl; some = decimal_some n (omega arith); value = number_value most n fits l }, number_pieces most ns l a.1)

pub numbers_reads : (most : ℕ) (ns : List ℕ) → most < 10 ^ 64 → AllByRecursion (λ n. n ≤ most) ns → Reads (list_of 44 (number most)) (list_word 44 decimal ns) ns
numbers_reads most ns l a = list_reads 44 (number most) decimal ns refl refl (number_pieces most ns l a)

direction_back : (d : Option ℕ) → FitsOption (λ n. n ≤ most_32) d → direction_of (direction_word d) ≡ Some d
direction_back None f = refl
direction_back (Some n) f = rw (not_name (number most_32) (decimal n) (codes "x") n refl (number_value most_32 n f (omega arith)), number_value most_32 n f (omega arith)) refl

direction_lacks : (byte : ℕ) (d : Option ℕ) → is_digit byte ≡ false → (120 == byte) ≡ false → FitsOption (λ n. n ≤ most_32) d → lacks byte (direction_word d) ≡ true
direction_lacks byte None e x f = rw x refl
direction_lacks byte (Some n) e x f = decimal_lacks byte n (omega arith) e

direction_some : (d : Option ℕ) → FitsOption (λ n. n ≤ most_32) d → 0 < length (direction_word d)
direction_some None f = omega arith
direction_some (Some n) f = decimal_some n (omega arith)

pub direction_pieces : (ds : List (Option ℕ)) → AllByRecursion (FitsOption (λ n. n ≤ most_32)) ds → AllByRecursion (Piece 44 direction_of direction_word) ds
direction_pieces [] a = tt
direction_pieces (d ∷ ds) a = (
  record {
    apart = direction_lacks 44 d refl refl a.0;
    whole = direction_lacks 32 d refl refl a.0;
    some = direction_some d a.0;
    value = direction_back d a.0;
  },
  direction_pieces ds a.1,
)

pub directions_apart : (byte : ℕ) (ds : List (Option ℕ)) → is_digit byte ≡ false → (120 == byte) ≡ false → AllByRecursion (FitsOption (λ n. n ≤ most_32)) ds → AllByRecursion (λ d. lacks byte (direction_word d) ≡ true) ds
directions_apart byte [] e x a = tt
directions_apart byte (d ∷ ds) e x a = (direction_lacks byte d e x a.0, directions_apart byte ds e x a.1)

pub numbers_apart : (byte most : ℕ) (ns : List ℕ) → is_digit byte ≡ false → most < 10 ^ 64 → AllByRecursion (λ n. n ≤ most) ns → AllByRecursion (λ n. lacks byte (decimal n) ≡ true) ns
numbers_apart byte most [] e l a = tt
numbers_apart byte most (n ∷ ns) e l a = let fits : n ≤ most = a.0 in (decimal_lacks byte n (omega arith) e, numbers_apart byte most ns e l a.1)

pub all_reads : (o : Option (List Zid)) → FitsOption (AllByRecursion FitsZid) o → Reads all_of (all_word o) o
all_reads None f = record { whole = refl; some = omega arith; value = refl }
all_reads (Some zids) f =
    let r = zids_reads zids f in
    record { whole = r.whole; some = r.some; value = rw (not_name zids_of (zids_word zids) (codes "none") zids refl r.value, r.value) refl }
