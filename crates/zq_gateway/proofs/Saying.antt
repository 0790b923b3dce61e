-- What is said is a key where its text is one: the empty text is none.
use Rattle.std.proofs.Common.{◌≡◌, refl}
use Rattle.zq_key.specs.Key.{is_chunk, is_key}
use Rattle.zq_tables.specs.declared.resolved.Resolved.{Resolved}
use Rattle.zq_tables.specs.declared.resolved.Resolved.TheVariants as said
use Rattle.zq_machine.specs.Selecting.{full_text, says_key}

pub says_is : (s : Resolved) → says_key s ≡ is_key (full_text s)
unfolding is_key is_chunk
says_is said.Unscoped = refl
says_is said.Empty = refl
says_is (said.Full text) = refl
