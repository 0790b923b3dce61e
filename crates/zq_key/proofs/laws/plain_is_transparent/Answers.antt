use Rattle.zq_key.proofs.Behind.{includes-behind, intersects-behind, key-behind, order-behind, plain-behind, same-behind, strip-behind, strip-itself}
use Rattle.zq_key.proofs.laws.plain_is_transparent.Goals as goal

pub returns : goal.returns
returns c = λ n p. record {
  key = λ k. key-behind n k p;
  plain = λ k. plain-behind n k p;
  equal = same-behind n;
  order = order-behind n;
  intersects = λ a b. intersects-behind n a b p;
  includes = λ a b. includes-behind n a b p;
  left = λ k. strip-behind n k p;
  itself = strip-itself n p;
}
