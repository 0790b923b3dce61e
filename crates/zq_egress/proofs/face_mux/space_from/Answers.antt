use Rattle.std.proofs.Common.{◌≡◌, ◌∙◌, ℕ, List, true, sym, ap}
use Rattle.std.specs.List.{list_all}
use Rattle.std.proofs.lemmas.Bool.{and_parts}
use Rattle.zq_key.specs.Key.{chunks, is_key, is_plain, is_plain_chunk}
use Rattle.zq_machine.specs.Gates.{is_space}
use Rattle.zq_egress.proofs.face_mux.space_from.Goals as goal

plain_key : (n : List ℕ) → is_plain n ≡ true → is_key n ≡ true
unfolding is_plain
plain_key n h = (and_parts (is_key n) (list_all is_plain_chunk (chunks n)) h).0

pub key_from-requires : goal.key_from-requires
key_from-requires c = ap is_key c.as_str.ensures ∙ plain_key c.in-Some.text (ap is_space (sym c.in-Some.is) ∙ c.requires)
