-- A region by its index.
use Rattle.std.proofs.Common.{◌≡◌, refl, ap, ◌+◌, ◌*◌, arith}
use Rattle.zq_message.specs.declared.message.Mode.TheVariants as mode
use Rattle.zq_message.specs.declared.message.Region.{Region}
use Rattle.zq_message.specs.declared.message.Region.TheVariants as region
use Rattle.zq_message.specs.Region.{region_index}

pub one_region : (a b : Region) → region_index a ≡ region_index b → a ≡ b
one_region region.North region.North e = refl
one_region region.North region.Local e = absurd (let x : 0 ≡ 1 = e in omega (arith, x))
one_region region.North (region.South j mode.Router) e = absurd (let x : 0 ≡ 2 + 3 * j + 0 = e in omega (arith, x))
one_region region.North (region.South j mode.Peer) e = absurd (let x : 0 ≡ 2 + 3 * j + 1 = e in omega (arith, x))
one_region region.North (region.South j mode.Client) e = absurd (let x : 0 ≡ 2 + 3 * j + 2 = e in omega (arith, x))
one_region region.Local region.North e = absurd (let x : 1 ≡ 0 = e in omega (arith, x))
one_region region.Local region.Local e = refl
one_region region.Local (region.South j mode.Router) e = absurd (let x : 1 ≡ 2 + 3 * j + 0 = e in omega (arith, x))
one_region region.Local (region.South j mode.Peer) e = absurd (let x : 1 ≡ 2 + 3 * j + 1 = e in omega (arith, x))
one_region region.Local (region.South j mode.Client) e = absurd (let x : 1 ≡ 2 + 3 * j + 2 = e in omega (arith, x))
one_region (region.South i mode.Router) region.North e = absurd (let x : 2 + 3 * i + 0 ≡ 0 = e in omega (arith, x))
one_region (region.South i mode.Peer) region.North e = absurd (let x : 2 + 3 * i + 1 ≡ 0 = e in omega (arith, x))
one_region (region.South i mode.Client) region.North e = absurd (let x : 2 + 3 * i + 2 ≡ 0 = e in omega (arith, x))
one_region (region.South i mode.Router) region.Local e = absurd (let x : 2 + 3 * i + 0 ≡ 1 = e in omega (arith, x))
one_region (region.South i mode.Peer) region.Local e = absurd (let x : 2 + 3 * i + 1 ≡ 1 = e in omega (arith, x))
one_region (region.South i mode.Client) region.Local e = absurd (let x : 2 + 3 * i + 2 ≡ 1 = e in omega (arith, x))
one_region (region.South i mode.Router) (region.South j mode.Router) e = ap (λ k. region.South k mode.Router) (let x : 2 + 3 * i + 0 ≡ 2 + 3 * j + 0 = e in let y : i ≡ j = omega (arith, x) in y)
one_region (region.South i mode.Peer) (region.South j mode.Peer) e = ap (λ k. region.South k mode.Peer) (let x : 2 + 3 * i + 1 ≡ 2 + 3 * j + 1 = e in let y : i ≡ j = omega (arith, x) in y)
one_region (region.South i mode.Client) (region.South j mode.Client) e = ap (λ k. region.South k mode.Client) (let x : 2 + 3 * i + 2 ≡ 2 + 3 * j + 2 = e in let y : i ≡ j = omega (arith, x) in y)
one_region (region.South i mode.Router) (region.South j mode.Peer) e = absurd (let x : 2 + 3 * i + 0 ≡ 2 + 3 * j + 1 = e in omega (arith, x))
one_region (region.South i mode.Router) (region.South j mode.Client) e = absurd (let x : 2 + 3 * i + 0 ≡ 2 + 3 * j + 2 = e in omega (arith, x))
one_region (region.South i mode.Peer) (region.South j mode.Router) e = absurd (let x : 2 + 3 * i + 1 ≡ 2 + 3 * j + 0 = e in omega (arith, x))
one_region (region.South i mode.Peer) (region.South j mode.Client) e = absurd (let x : 2 + 3 * i + 1 ≡ 2 + 3 * j + 2 = e in omega (arith, x))
one_region (region.South i mode.Client) (region.South j mode.Router) e = absurd (let x : 2 + 3 * i + 2 ≡ 2 + 3 * j + 0 = e in omega (arith, x))
one_region (region.South i mode.Client) (region.South j mode.Peer) e = absurd (let x : 2 + 3 * i + 2 ≡ 2 + 3 * j + 1 = e in omega (arith, x))
