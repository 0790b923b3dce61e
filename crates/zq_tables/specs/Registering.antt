-- What it means that an id came to stand for a text, on either side of a face.
use Rattle.std.specs.Prelude.{◌≡◌, ℕ, List, Option, Some, None, IfSome, MatchOption}
use Rattle.std.specs.List.{Contains}
use Rattle.zq_message.specs.declared.message.WireExpr.{WireExpr}
use Rattle.zq_names.specs.declared.node.ResourceId.{ResourceId}
use Rattle.zq_names.specs.Names.{NameEntry, Makes, HasText, ids, entry_at}
use Rattle.zq_names.specs.Texts.{nonwild}
use Rattle.zq_names.specs.Keeping.{AllStay}
use Rattle.zq_names.specs.Idle.{IdleAt, NoneIdle}
use Rattle.zq_tables.specs.FaceIds.{FaceIds, of_id, with_id, AreLive}
use Rattle.zq_tables.specs.FaceTexts.{texts_of, full_of, registered, with_new}

-- the text was made, and its number stands under the id
pub record Maps (names names' : List NameEntry) (old new : FaceIds) (i : ℕ) (t : List ℕ) : Type 0 where
  pub r : ResourceId
  pub made : Makes names names' r t
  pub named : HasText names' r t
  pub kept : AllStay names names'
  pub lean : NoneIdle names → IdleAt names' r.0
  pub mapped : new.theirs ≡ with_id old.theirs i r.0
  pub ours : new.ours ≡ old.ours

-- the id was mapped, or stood for the text before; as lists of texts, one id more stands for it
pub record Registers (names names' : List NameEntry) (old new : FaceIds) (i : ℕ) (w : WireExpr) : Type 0 where
  pub text : List ℕ
  pub full : full_of (texts_of names old) w ≡ Some text
  pub maps : MatchOption (of_id old.theirs i) (Maps names names' old new i text) (λ _. (new ≡ old) × (names' ≡ names))
  pub texts : texts_of names' new ≡ registered (texts_of names old) i text
  pub live : AreLive names' new

-- no id was declared, or a new one for a live node of the text's part without a `*`; all else is as it was
pub record Gives (names : List NameEntry) (old new : FaceIds) (t : List ℕ) (declared : Option ℕ) : Type 0 where
  pub node : ℕ
  pub given : new ≡ with_new old node declared
  pub named : IfSome declared (λ i. (of_id old.ours i ≡ None) × Contains (ids names) node × ((entry_at names node).text ≡ nonwild t))
