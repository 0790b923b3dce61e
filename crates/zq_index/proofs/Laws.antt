-- The laws of merging.
use Rattle.std.proofs.Common.{◌≡◌, ℕ, min, Bool, true, false, ap, refl, arith}
use Rattle.zq_message.specs.declared.message.QueryableInfoType.{QueryableInfoType}
use Rattle.zq_index.specs.Infos.{merge}

abbrev mk : Bool → ℕ → QueryableInfoType
mk c d = record { complete = c; distance = d }

comm : (a : Bool) (x : ℕ) (b : Bool) (y : ℕ) → merge (mk a x) (mk b y) ≡ merge (mk b y) (mk a x)
comm true x true y = let e : min x y ≡ min y x = omega arith in ap (mk true) e
comm true x false y = refl
comm false x true y = refl
comm false x false y = let e : min x y ≡ min y x = omega arith in ap (mk false) e

pub merge_swap : (a b : QueryableInfoType) → merge a b ≡ merge b a
merge_swap a b = comm a.complete a.distance b.complete b.distance

assoc : (a : Bool) (x : ℕ) (b : Bool) (y : ℕ) (c : Bool) (z : ℕ) → merge (merge (mk a x) (mk b y)) (mk c z) ≡ merge (mk a x) (merge (mk b y) (mk c z))
assoc true x true y true z = let e : min (min x y) z ≡ min x (min y z) = omega arith in ap (mk true) e
assoc true x true y false z = refl
assoc true x false y true z = refl
assoc true x false y false z = refl
assoc false x true y true z = refl
assoc false x true y false z = refl
assoc false x false y true z = refl
assoc false x false y false z = let e : min (min x y) z ≡ min x (min y z) = omega arith in ap (mk false) e

pub merge_regroup : (a b c : QueryableInfoType) → merge (merge a b) c ≡ merge a (merge b c)
merge_regroup a b c = assoc a.complete a.distance b.complete b.distance c.complete c.distance

same : (a : Bool) (x : ℕ) → merge (mk a x) (mk a x) ≡ mk a x
same true x = let e : min x x ≡ x = omega arith in ap (mk true) e
same false x = let e : min x x ≡ x = omega arith in ap (mk false) e

pub merge_self : (a : QueryableInfoType) → merge a a ≡ a
merge_self a = same a.complete a.distance
