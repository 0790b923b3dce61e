-- What is handed to C owns what a box at the same types owns.
use mir.Syntax.{impl, tnil, dnil}
use mathlib.Core.List.{[]}
use mathlib.Core.Path.{◌≡◌, refl}
use Rattle.std.specs.Prelude.{Option, Some, None, IsSome}
use Rattle.zq_c.specs.Owning.{Kept}
use Rattle.std.proofs.lemmas.Bool.{false≢true}
use denote.Signature.{Slot, plain}
use Rattle.std_alloc.proofs.BoxSteps.Form.{Bx}
use Rattle.std_heap.specs.contracts.Global as Heap
use Rattle.std_heap.specs.contracts.GlobalAllocator.TheImpl.{ghosts, dict}
use Rattle.std_heap.proofs.Global.TheLaws as heap
use Rattle.zq_spoken.specs.contracts.speaker.Speaker as Inner
use Rattle.zq_spoken.proofs.speaker.Speaker.TheLaws as inner
use Rattle.zq_c.specs.contracts.parts.Parts as Parts
use Rattle.zq_c.specs.contracts.owned_box.Owned as Owned

-- a box of a speaker
abbrev pub E : Bx
E = record { row = Inner.the_row; laws = inner.the_row_laws; al = record { row = Heap.the_row; laws = heap.the_row_laws; g = ghosts; d = dict; drops = impl [] tnil dnil } }

abbrev pub FromParts : Slot 0
FromParts = plain (λ _. Parts.the_row Inner.the_row Heap.the_row ghosts)

abbrev pub FromOwned : Slot 0
FromOwned = plain (λ _. Owned.the_row)

abbrev pub FromGlobal : Slot 0
FromGlobal = plain (λ _. Heap.the_row)

-- what is there, where something is
pub held : (o : Option Kept) → IsSome o → (x : Kept) × (o ≡ Some x)
held None h = absurd (false≢true h)
held (Some x) h = (x, refl)
