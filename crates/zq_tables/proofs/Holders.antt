-- What is the same for each holder of nodes at a face.
use Rattle.std.proofs.Common.{◌≡◌, ℕ, ◌+◌, ◌≤◌, List, [], refl, arith}
use Rattle.zq_message.specs.declared.message.Mapping.TheVariants.{Sender, Receiver}
use Rattle.zq_names.specs.Names.{NameEntry}
use Rattle.zq_tables.specs.FaceTexts.{id_texts}
use Rattle.zq_tables.specs.Naming.{FaceKeys, Names, no_keys}
use Rattle.zq_tables.specs.Holding.{FaceHolds, IsFace, Rises, side_holds, face_holds, held_ids, held_keys, keys_of_face, least, limit, with_ids, with_keys}
use Rattle.zq_tables.specs.declared.holder.Holder.{Holder}
use Rattle.zq_tables.specs.declared.holder.Holder.TheVariants.{Number, Queryable, Interest}

-- ---- ids and their texts

pub same_ids : (h : Holder) (names : List NameEntry) (f : FaceHolds) → id_texts names (held_ids h f) ≡ held_keys h (keys_of_face names f)
same_ids (Number Sender) names f = refl
same_ids (Number Receiver) names f = refl
same_ids Queryable names f = refl
same_ids Interest names f = refl

pub shown_with : (h : Holder) (names : List NameEntry) (f : FaceHolds) (ids : List (ℕ × ℕ)) → keys_of_face names (with_ids h f ids) ≡ with_keys h (keys_of_face names f) (id_texts names ids)
shown_with (Number Sender) names f ids = refl
shown_with (Number Receiver) names f ids = refl
shown_with Queryable names f ids = refl
shown_with Interest names f ids = refl

-- ---- texts are put in place

pub none_keys : (h : Holder) → held_keys h no_keys ≡ []
none_keys (Number Sender) = refl
none_keys (Number Receiver) = refl
none_keys Queryable = refl
none_keys Interest = refl

pub keys_with : (h : Holder) (n : FaceKeys) (names : Names) → held_keys h (with_keys h n names) ≡ names
keys_with (Number Sender) n names = refl
keys_with (Number Receiver) n names = refl
keys_with Queryable n names = refl
keys_with Interest n names = refl

pub with_own : (h : Holder) (n : FaceKeys) → with_keys h n (held_keys h n) ≡ n
with_own (Number Sender) n = refl
with_own (Number Receiver) n = refl
with_own Queryable n = refl
with_own Interest n = refl

pub with_twice : (h : Holder) (n : FaceKeys) (names last : Names) → with_keys h (with_keys h n names) last ≡ with_keys h n last
with_twice (Number Sender) n names last = refl
with_twice (Number Receiver) n names last = refl
with_twice Queryable n names last = refl
with_twice Interest n names last = refl

-- ---- holds

pub holds_with : (h : Holder) (i : ℕ) (f : FaceHolds) (ids : List (ℕ × ℕ)) → face_holds i (with_ids h f ids) + side_holds i (held_ids h f) ≡ face_holds i f + side_holds i ids
holds_with (Number Sender) i f ids = omega arith
holds_with (Number Receiver) i f ids = omega arith
holds_with Queryable i f ids = omega arith
holds_with Interest i f ids = omega arith

pub held_part : (h : Holder) (i : ℕ) (f : FaceHolds) → side_holds i (held_ids h f) ≤ face_holds i f
held_part (Number Sender) i f = omega arith
held_part (Number Receiver) i f = omega arith
held_part Queryable i f = omega arith
held_part Interest i f = omega arith

-- ---- ids rise

pub rises_with : (h : Holder) (f : FaceHolds) (ids : List (ℕ × ℕ)) → IsFace f → Rises (limit h) (least h) ids → IsFace (with_ids h f ids)
rises_with (Number Sender) f ids old new = record { rises = by }
  where
    by : (k : Holder) → Rises (limit k) (least k) (held_ids k (with_ids (Number Sender) f ids))
    by (Number Sender) = new
    by (Number Receiver) = old.rises (Number Receiver)
    by Queryable = old.rises Queryable
    by Interest = old.rises Interest
rises_with (Number Receiver) f ids old new = record { rises = by }
  where
    by : (k : Holder) → Rises (limit k) (least k) (held_ids k (with_ids (Number Receiver) f ids))
    by (Number Sender) = old.rises (Number Sender)
    by (Number Receiver) = new
    by Queryable = old.rises Queryable
    by Interest = old.rises Interest
rises_with Queryable f ids old new = record { rises = by }
  where
    by : (k : Holder) → Rises (limit k) (least k) (held_ids k (with_ids Queryable f ids))
    by (Number Sender) = old.rises (Number Sender)
    by (Number Receiver) = old.rises (Number Receiver)
    by Queryable = new
    by Interest = old.rises Interest
rises_with Interest f ids old new = record { rises = by }
  where
    by : (k : Holder) → Rises (limit k) (least k) (held_ids k (with_ids Interest f ids))
    by (Number Sender) = old.rises (Number Sender)
    by (Number Receiver) = old.rises (Number Receiver)
    by Queryable = old.rises Queryable
    by Interest = new
