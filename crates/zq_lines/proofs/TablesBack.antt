-- The words of tables read back.
use Rattle.std.proofs.Common.{◌≡◌, ℕ, List, [], ◌∷◌, refl, arith, true, false}
use Rattle.std.specs.Prelude.{◌==◌, Some}
use Rattle.std.specs.Fmt.{decimal}
use Rattle.std.specs.List.{AllByRecursion}
use Rattle.zq_strategy.specs.declared.network.Tree.{Tree}
use Rattle.zq_route.specs.declared.gateways.GatewayEntry.{GatewayEntry}
use Rattle.zq_io.specs.Words.{is_digit, number, list_of, list_word, lacks}
use Rattle.zq_io.specs.Values.{most_32, zid_word, zids_word, direction_of, direction_word}
use Rattle.zq_io.proofs.Back.{cut_back, Reads, decimal_lacks}
use Rattle.zq_io.proofs.Lists.{Piece, list_back, list_reads, list_lacks}
use Rattle.zq_io.proofs.ValuesBack.{direction_pieces, directions_apart, lacks_between, number_pieces, numbers_apart, some_between, zid_value, zids_apart, zids_reads}
use Rattle.zq_lines.specs.Tables.{entry_of, entry_word, tree_of, tree_word, FitsEntry, FitsTree}

-- entries of tables
entry_value : (e : GatewayEntry) → FitsEntry e → entry_of (entry_word e) ≡ Some e
unfolding entry_of
entry_value e f = rw (cut_back 61 (zid_word e.node) (zids_word e.gateways) (decimal_lacks 61 e.node.0 (omega (arith, f.node)) refl), zid_value e.node f.node, (zids_reads e.gateways f.gateways).value) refl

entry_lacks : (byte : ℕ) (e : GatewayEntry) → is_digit byte ≡ false → (45 == byte) ≡ false → (44 == byte) ≡ false → (61 == byte) ≡ false → FitsEntry e → lacks byte (entry_word e) ≡ true
entry_lacks byte e d h k s f =
    lacks_between 61 byte (zid_word e.node) _ s (decimal_lacks byte e.node.0 (omega (arith, f.node)) d) (list_lacks byte 44 zid_word e.gateways h k (zids_apart byte e.gateways d f.gateways))

entry_pieces : (es : List GatewayEntry) → AllByRecursion FitsEntry es → AllByRecursion (Piece 59 entry_of entry_word) es
entry_pieces [] a = tt
entry_pieces (e ∷ es) a = (
  record {
    apart = entry_lacks 59 e refl refl refl refl a.0;
    whole = entry_lacks 32 e refl refl refl refl a.0;
    some = some_between (zid_word e.node) _ 61;
    value = entry_value e a.0;
  },
  entry_pieces es a.1,
)

pub entries_reads : (es : List GatewayEntry) → AllByRecursion FitsEntry es → Reads (list_of 59 entry_of) (list_word 59 entry_word es) es
unfolding entry_of
entries_reads es a = list_reads 59 entry_of entry_word es refl refl (entry_pieces es a)

tree_value : (t : Tree) → FitsTree t → tree_of (tree_word t) ≡ Some t
unfolding tree_of
tree_value t f =
    rw (
      cut_back 47 (list_word 44 decimal t.children) (list_word 44 direction_word t.directions) (list_lacks 47 44 decimal t.children refl refl (numbers_apart 47 most_32 t.children refl (omega arith) f.children)),
      list_back 44 (number most_32) decimal t.children refl (number_pieces most_32 t.children (omega arith) f.children),
      list_back 44 direction_of direction_word t.directions refl (direction_pieces t.directions f.directions),
    ) refl

tree_lacks : (byte : ℕ) (t : Tree) → is_digit byte ≡ false → (120 == byte) ≡ false → (45 == byte) ≡ false → (44 == byte) ≡ false → (47 == byte) ≡ false → FitsTree t → lacks byte (tree_word t) ≡ true
tree_lacks byte t e x d c s f =
    lacks_between 47 byte (list_word 44 decimal t.children) _ s
    (list_lacks byte 44 decimal t.children d c (numbers_apart byte most_32 t.children e (omega arith) f.children))
    (list_lacks byte 44 direction_word t.directions d c (directions_apart byte t.directions e x f.directions))

tree_pieces : (ts : List Tree) → AllByRecursion FitsTree ts → AllByRecursion (Piece 59 tree_of tree_word) ts
tree_pieces [] a = tt
tree_pieces (t ∷ ts) a = (
  record {
    apart = tree_lacks 59 t refl refl refl refl refl a.0;
    whole = tree_lacks 32 t refl refl refl refl refl a.0;
    some = some_between (list_word 44 decimal t.children) _ 47;
    value = tree_value t a.0;
  },
  tree_pieces ts a.1,
)

pub trees_reads : (ts : List Tree) → AllByRecursion FitsTree ts → Reads (list_of 59 tree_of) (list_word 59 tree_word ts) ts
unfolding tree_of
trees_reads ts a = list_reads 59 tree_of tree_word ts refl refl (tree_pieces ts a)
