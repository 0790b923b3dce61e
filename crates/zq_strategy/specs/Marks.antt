-- What marks say of a face: that all it had to declare has come, at its opening or on a key.
use Rattle.std.specs.Prelude.{ℕ, Bool, true, false, List}
use Rattle.std.specs.List.{list_any}
use Rattle.std.specs.BTreeMap.{is_at}
use Rattle.std.specs.BTreeSet.{insert_key}
use Rattle.std.specs.Set.{remove_key}
use Rattle.zq_strategy.specs.declared.types.FinalMark.{FinalMark}
use Rattle.zq_strategy.specs.declared.types.FinalMark.TheVariants as mark
use Rattle.zq_index.specs.Texts.{text_cmp}
use Rattle.zq_strategy.specs.Kept.{change_face}
use Rattle.zq_strategy.specs.State.{FaceState, HatState}

-- the key is marked at the face
abbrev pub is_finalized : List ℕ → FaceState → Bool
is_finalized key f = list_any (is_at (text_cmp key)) f.finalized

-- the face with a mark set, or unset
abbrev pub marked : FinalMark → Bool → FaceState → FaceState
marked mark.Initial set f = record f { initial = set }
marked (mark.Key key) true f = record f { finalized = insert_key text_cmp f.finalized key }
marked (mark.Key key) false f = record f { finalized = remove_key (is_at (text_cmp key)) f.finalized }

-- the hat with a mark of the face set, or unset
abbrev pub finalized : ℕ → FinalMark → Bool → HatState → HatState
finalized number mark set s = change_face number (marked mark set) s
