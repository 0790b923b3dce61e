-- Where a text and a request's key part: which bytes may follow there.
use Rattle.std.specs.Prelude.{◌≡◌, ◌≢◌, ℕ, ◌<◌, ◌≤◌, nat_le, if◌then◌else◌, false, List, [], ◌∷◌, ◌++◌, length, take, drop, slice_index}
use Rattle.zq_key.specs.Key.{chunks, intersects, is_stars}
use Rattle.zq_key.specs.Apart.{is_wild, Misses}
use Rattle.zq_index.specs.declared.forks.Mode.{Mode}
use Rattle.zq_index.specs.declared.forks.Mode.TheVariants.{Chunk, Star, Free}

-- the lists of chunks without the first
abbrev pub later : List (List ℕ) → List (List ℕ)
later [] = []
later (h ∷ hs) = hs

-- the chunks of a key from a place on; none past its end
abbrev pub chunks_from : List ℕ → ℕ → List (List ℕ)
chunks_from q j = if nat_le j (length q) then chunks (drop j q) else []

-- what is left of a text does not meet what is left of a key: they are compared from here on; or the text's chunk, a `*`, has to end here; or its chunk is passed over, as the key's was
abbrev pub IsDead : Mode → List (List ℕ) → List ℕ → Type 0
IsDead Chunk gs rest = Misses (chunks rest) gs
IsDead Star gs rest = (more : List ℕ) × (rest ≡ 47 ∷ more) × Misses (chunks more) gs
IsDead Free gs rest = Misses (later (chunks rest)) gs

-- whatever goes on from here by another byte than the wanted one or a wild one is dead
abbrev pub Parts : Mode → List (List ℕ) → ℕ → Type 0
Parts mode gs want = (d : ℕ) (more : List ℕ) → is_wild d ≡ false → d ≢ want → IsDead mode gs (d ∷ more)

-- whatever goes on from here by a greater byte is dead
abbrev pub EndsAbove : Mode → List (List ℕ) → ℕ → Type 0
EndsAbove mode gs byte = (d : ℕ) (more : List ℕ) → byte < d → IsDead mode gs (d ∷ more)

-- a text goes on by the byte: what is dead after it is dead with it
abbrev pub GoesOn : Mode → List (List ℕ) → ℕ → Mode → List (List ℕ) → Type 0
GoesOn mode gs byte next left = (rest : List ℕ) → IsDead next left rest → IsDead mode gs (byte ∷ rest)

-- what is dead from a place of the key on does not meet the key behind the text's first bytes
abbrev pub Leads : List ℕ → List ℕ → ℕ → Mode → ℕ → Type 0
Leads text q at mode j = (rest : List ℕ) → IsDead mode (chunks_from q j) rest → intersects (take at text ++ rest) q ≡ false

-- after its first k bytes what goes on otherwise than by the wanted byte or a wild one does not meet the key
pub record IsForkAt (text q : List ℕ) (k want : ℕ) : Type 0 where
  pub in_range : k < length text
  pub tame : is_wild (slice_index text k) ≡ false
  pub other : slice_index text k ≢ want
  pub dead : (d : ℕ) (more : List ℕ) → is_wild d ≡ false → d ≢ want → intersects (take k text ++ d ∷ more) q ≡ false

-- from one place on, up to another, what begins like the text and goes on by a greater byte does not meet the key
abbrev pub IsHeld : List ℕ → List ℕ → ℕ → ℕ → Type 0
IsHeld text q from to = (p d : ℕ) (more : List ℕ) → from ≤ p → p < to → slice_index text p < d → intersects (take p text ++ d ∷ more) q ≡ false

-- the first chunk from a place on, which is not `**`, is passed over up to another place
abbrev pub PassesOver : List ℕ → ℕ → ℕ → Type 0
PassesOver q j next = (chunk : List ℕ) × (chunks_from q j ≡ chunk ∷ chunks_from q next) × (is_stars chunk ≡ false)

-- the least byte after the given one by which a key may go on
pub record IsNext (byte want next : ℕ) : Type 0 where
  pub after : byte < next
  pub none : (d : ℕ) → byte ≤ d → d < next → (is_wild d ≡ false) × (d ≢ want)

-- no byte from the given one on is wild or wanted
abbrev pub IsLast : ℕ → ℕ → Type 0
IsLast byte want = (d : ℕ) → byte ≤ d → (is_wild d ≡ false) × (d ≢ want)
