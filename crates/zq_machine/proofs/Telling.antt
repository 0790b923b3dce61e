-- What faces are told is declarations, and it changes numbers of keys alone.
use Rattle.std.proofs.Common.{◌≡◌, ◌∙◌, ap, refl, ℕ, Bool, false, cond, List, [], ◌∷◌, Option, Some, None}
use Rattle.std.specs.Prelude.{◌||◌}
use Rattle.std.specs.List.{AllByRecursion, cons_option, filter, filter_map, list_any}
use Rattle.zq_message.specs.declared.message.Declare.{Declare}
use Rattle.zq_message.specs.declared.message.DeclareBody.TheVariants as body
use Rattle.zq_message.specs.declared.message.FaceId.{FaceId}
use Rattle.zq_message.specs.declared.message.Message.TheVariants as message
use Rattle.zq_message.specs.declared.message.WireExpr.{WireExpr}
use Rattle.zq_names.specs.Texts.{nonwild}
use Rattle.zq_tables.specs.declared.decl.DeclKey.{DeclKey}
use Rattle.zq_tables.specs.Naming.{NamingState, change_naming, plain, with_told_number}
use Rattle.zq_machine.specs.Handing.{Handed}
use Rattle.zq_machine.specs.Messages.{Telling, TellingBody, all_told, key_ended, key_told}
use Rattle.zq_machine.specs.State.{Core}
use Rattle.zq_machine.specs.Writing.{and_then, tell, tell_body, tell_by, tell_declare, tell_number, told_key}
use Rattle.zq_machine.proofs.Lists.{all_append}

-- ---- what is handed
-- a declaration as a face is handed it, before its gate says what leaves of it
abbrev pub declared : FaceId → Declare → Handed
declared to d = record { to = to; number = None; reply = None; message = message.Declare d; leaves = Some (message.Declare d) }

-- it holds of every declaration
abbrev pub OfDeclared : (Handed → Type 0) → Type 0
OfDeclared P = (to : FaceId) (d : Declare) → P (declared to d)

-- a number is declared
abbrev pub number_declare : List ℕ → ℕ → Declare
number_declare text id = record { interest = None; node = 0; body = body.DeclareKeyExpr id (plain (nonwild text)) }

module _ (P : Handed → Type 0) (each : OfDeclared P) where
  one_all : (to : FaceId) (d : Declare) (names : NamingState) → AllByRecursion P (tell_declare to d names).handed
  one_all to d names = (each to d, tt)

  key_all : (c : Core) (to : FaceId) (text : List ℕ) (make : DeclKey → Declare) (names : NamingState) → AllByRecursion P (tell_by c to text make names).handed
  key_all c to text make names = by (told_key c to text names).declared
    where
      by : (o : Option ℕ) → AllByRecursion P (and_then (tell_number to text o names) (tell_declare to (make (told_key c to text names)))).handed
      by None = one_all to (make (told_key c to text names)) names
      by (Some id) = (each to (number_declare text id), one_all to (make (told_key c to text names)) names)

  body_all : (c : Core) (t : Telling) (b : TellingBody) (names : NamingState) → AllByRecursion P (tell_body c t b names).handed
  body_all c t (key_told id text info) names = key_all c t.to text (λ k. record { interest = t.interest; node = t.node; body = body.DeclareQueryable id k.wire info }) names
  body_all c t (key_ended id None) names = one_all t.to (record { interest = t.interest; node = t.node; body = body.UndeclareQueryable id None }) names
  body_all c t (key_ended id (Some text)) names = key_all c t.to text (λ k. record { interest = t.interest; node = t.node; body = body.UndeclareQueryable id (Some k.wire) }) names
  body_all c t all_told names = one_all t.to (record { interest = t.interest; node = t.node; body = body.DeclareFinal }) names

  -- what holds of every declaration holds of all that is told
  pub told_all : (c : Core) (ts : List Telling) (names : NamingState) → AllByRecursion P (tell c ts names).handed
  told_all c [] names = tt
  told_all c (t ∷ ts) names =
      all_append P (tell_body c t t.body names).handed (tell c ts (tell_body c t t.body names).names).handed
      (body_all c t t.body names) (told_all c ts (tell_body c t t.body names).names)

-- the declaration of what is told, by an expression of its key
abbrev pub declare_of : Telling → TellingBody → WireExpr → Declare
declare_of t (key_told id text info) w = record { interest = t.interest; node = t.node; body = body.DeclareQueryable id w info }
declare_of t (key_ended id None) w = record { interest = t.interest; node = t.node; body = body.UndeclareQueryable id None }
declare_of t (key_ended id (Some text)) w = record { interest = t.interest; node = t.node; body = body.UndeclareQueryable id (Some w) }
declare_of t all_told w = record { interest = t.interest; node = t.node; body = body.DeclareFinal }

-- what holds of each declared number, and of the declaration of each thing that is told, holds of all that is told
module _ (P : Handed → Type 0) (number : (to : FaceId) (text : List ℕ) (id : ℕ) → P (declared to (number_declare text id))) where
  abbrev pub IsTold : Telling → Type 0
  IsTold t = (w : WireExpr) → P (declared t.to (declare_of t t.body w))

  key_each : (c : Core) (to : FaceId) (text : List ℕ) (make : WireExpr → Declare) → ((w : WireExpr) → P (declared to (make w))) → (names : NamingState) → AllByRecursion P (tell_by c to text (λ k. make k.wire) names).handed
  key_each c to text make each names = by (told_key c to text names).declared
    where
      by : (o : Option ℕ) → AllByRecursion P (and_then (tell_number to text o names) (tell_declare to (make (told_key c to text names).wire))).handed
      by None = (each (told_key c to text names).wire, tt)
      by (Some id) = (number to text id, (each (told_key c to text names).wire, tt))

  body_each : (c : Core) (t : Telling) (b : TellingBody) → ((w : WireExpr) → P (declared t.to (declare_of t b w))) → (names : NamingState) → AllByRecursion P (tell_body c t b names).handed
  body_each c t (key_told id text info) each names = key_each c t.to text (declare_of t (key_told id text info)) each names
  body_each c t (key_ended id None) each names = (each (plain []), tt)
  body_each c t (key_ended id (Some text)) each names = key_each c t.to text (declare_of t (key_ended id (Some text))) each names
  body_each c t all_told each names = (each (plain []), tt)

  pub told_each : (c : Core) (ts : List Telling) (names : NamingState) → AllByRecursion IsTold ts → AllByRecursion P (tell c ts names).handed
  told_each c [] names all = tt
  told_each c (t ∷ ts) names all =
      all_append P (tell_body c t t.body names).handed (tell c ts (tell_body c t t.body names).names).handed
      (body_each c t t.body all.0 names) (told_each c ts (tell_body c t t.body names).names all.1)

-- ---- what stands for keys afterwards
module _ (P : NamingState → Type 0) (keeps : (face : ℕ) (text : List ℕ) (id : ℕ) (names : NamingState) → P names → P (change_naming face (with_told_number text (Some id)) names)) where
  number_keeps : (to : FaceId) (text : List ℕ) (o : Option ℕ) (names : NamingState) → P names → P (tell_number to text o names).names
  number_keeps to text None names p = p
  number_keeps to text (Some id) names p = keeps to.0 text id names p

  body_keeps : (c : Core) (t : Telling) (b : TellingBody) (names : NamingState) → P names → P (tell_body c t b names).names
  body_keeps c t (key_told id text info) names p = number_keeps t.to text (told_key c t.to text names).declared names p
  body_keeps c t (key_ended id None) names p = p
  body_keeps c t (key_ended id (Some text)) names p = number_keeps t.to text (told_key c t.to text names).declared names p
  body_keeps c t all_told names p = p

  -- what each new number keeps is kept by all that is told
  pub told_keeps : (c : Core) (ts : List Telling) (names : NamingState) → P names → P (tell c ts names).names
  told_keeps c [] names p = p
  told_keeps c (t ∷ ts) names p = told_keeps c ts (tell_body c t t.body names).names (body_keeps c t t.body names p)

-- ---- lists of which no item passes
pub none_any : {X : Type 0} (p : X → Bool) (xs : List X) → AllByRecursion (λ x. p x ≡ false) xs → list_any p xs ≡ false
none_any p [] all = refl
none_any p (x ∷ xs) all = λ j. all.0 j || none_any p xs all.1 j

pub none_filtered : {X : Type 0} (p : X → Bool) (xs : List X) → AllByRecursion (λ x. p x ≡ false) xs → filter p xs ≡ []
none_filtered p [] all = refl
none_filtered p (x ∷ xs) all = ap (λ b. cond b (x ∷ filter p xs) (filter p xs)) all.0 ∙ none_filtered p xs all.1

pub none_mapped : {X Y : Type 0} (f : X → Option Y) (xs : List X) → AllByRecursion (λ x. f x ≡ None) xs → filter_map f xs ≡ []
none_mapped f [] all = refl
none_mapped f (x ∷ xs) all = ap (λ o. cons_option o (filter_map f xs)) all.0 ∙ none_mapped f xs all.1
