-- A call that is no request goes through the gates of faces: what it is answered and leaves, by what it is answered and leaves before them; and a face that is told nothing but finals has its gate taken before or after.
use Rattle.std.proofs.Common.{◌≡◌, ◌∙◌, refl, sym, ap, ℕ, Bool, true, false, cond, true≢false, List, [], ◌∷◌, ◌++◌, map, fold, Option, Some, None}
use Rattle.std.specs.Prelude.{◌&&◌, is_none}
use Rattle.std.specs.BTreeMap.{is_at}
use Rattle.std.specs.List.{AllByRecursion}
use Rattle.std.specs.Map.{remove_entry}
use Rattle.std.specs.Ordering.{nat_cmp}
use Rattle.zq_message.specs.declared.message.FaceId.{FaceId}
use Rattle.zq_message.specs.declared.message.QueryableInfoType.{QueryableInfoType}
use Rattle.zq_message.specs.declared.message.Declare.{Declare}
use Rattle.zq_message.specs.declared.message.DeclareBody.TheVariants as body
use Rattle.zq_namespace.specs.Leaves.{gives}
use Rattle.zq_query.specs.declared.records.Final.{Final}
use Rattle.zq_tables.specs.declared.resolved.Resolved.{Resolved}
use Rattle.zq_tables.specs.Naming.{NamingState}
use Rattle.zq_tables.specs.declared.decl.DeclKey.{DeclKey}
use Rattle.zq_machine.specs.declared.call.Outcome.{Outcome}
use Rattle.zq_machine.specs.declared.call.Step.{Step}
use Rattle.zq_machine.specs.Gates.{Gate, Gates, Out, end_kept, gate_at, keeping, kept_by, leaves_by, let_out, out_first, put_kept, through, with_given, without_ended}
use Rattle.zq_machine.specs.Handing.{Handed}
use Rattle.zq_machine.specs.Machine.{answer, asked_text, settle}
use Rattle.zq_machine.specs.Messages.{Telling, TellingBody, all_told, key_ended, key_told}
use Rattle.zq_machine.specs.State.{Core, State}
use Rattle.zq_machine.specs.TextCalls.{TextCall, asking}
use Rattle.zq_machine.specs.Writing.{and_then, sent_final, tell, tell_body, tell_by, tell_declare, tell_number, told_key}
use Rattle.zq_machine.proofs.Asks.{is_asking}
use Rattle.zq_machine.proofs.GoingOut.{final_through}
use Rattle.zq_machine.proofs.Lists.{all_append}
use Rattle.zq_machine.proofs.Telling.{told_all}
use Rattle.zq_machine.proofs.Ungated.{quiet_answer, quiet_settle}
use Rattle.zq_machine.proofs.Writing.{gated, gone_out, plain_answer, plain_settle}
use Rattle.zq_egress.specs.Exits.{left_by}
use Rattle.zq_egress.specs.declared.exits.Exit.{Exit}
use Rattle.zq_egress.specs.Gone.{AreOut, IsTold}
use Rattle.zq_gateway.specs.Routing.{entering}
use Rattle.zq_gateway.proofs.Beside.{found_beside, written_beside}

-- ---- what a call tells is no request, and all of it leaves before the gates
pub each_told : (c : Core) (ts : List Telling) (names : NamingState) → AllByRecursion IsTold (tell c ts names).handed
each_told c ts names = told_all IsTold (λ to d. record { quiet = tt; whole = refl }) c ts names

-- so are finals before it
finals_told : (fs : List Final) → AllByRecursion IsTold (map sent_final fs)
finals_told [] = tt
finals_told (f ∷ fs) = (record { quiet = tt; whole = refl }, finals_told fs)

pub told_behind : (fs : List Final) (c : Core) (ts : List Telling) (names : NamingState) → AllByRecursion IsTold (map sent_final fs ++ (tell c ts names).handed)
told_behind fs c ts names = all_append IsTold (map sent_final fs) (tell c ts names).handed (finals_told fs) (each_told c ts names)

-- ---- no request
no_text : (t : TextCall) → is_asking t ≡ false → asked_text t ≡ []
unfolding is_asking
no_text (asking face s r now) quiet = absurd (true≢false quiet)
no_text t quiet = refl

pub entering_asks : (face : FaceId) (sd : Resolved) (info : Option QueryableInfoType) (node : ℕ) → is_asking (entering face sd info node) ≡ false
unfolding is_asking
entering_asks face sd None node = refl
entering_asks face sd (Some i) node = refl

-- ---- through the gates, by what the call is answered and leaves before them
module _ (s : State) (t : TextCall) (quiet : is_asking t ≡ false) (outcome : Outcome) (hs : List Handed) (w : State)
    (answered : ◌≡◌ {A = Step} (record { outcome = outcome; handed = hs }) (plain_answer s t)) (left : plain_settle s t ≡ w)
    (was : Gates) (same : was ≡ w.gates) (es : List Exit) (after : Gates) (out : AreOut was hs after es) where
  goes : let_out [] hs w.gates ≡ record { handed = left_by es hs; gates = after }
  goes = ap (let_out [] hs) (sym same) ∙ out

  pub goes_out : ◌≡◌ {A = Step} (record { outcome = outcome; handed = left_by es hs }) (answer s t)
  goes_out =
      ap (λ (o : Out). record { outcome = outcome; handed = o.handed }) (sym goes)
      ∙ (λ j. gone_out (sym (no_text t quiet) j) (answered j) (sym left j))
      ∙ sym (quiet_answer s t quiet)

  pub stays_out : settle s t ≡ record w { gates = fold without_ended after (left_by es hs) }
  stays_out =
      quiet_settle s t quiet
      ∙ (λ j. gated (no_text t quiet j) (sym answered j) (left j))
      ∙ ap (λ (o : Out). record w { gates = (end_kept o).gates }) goes

-- where nothing is handed, the gates keep nothing either
module _ (s : State) (t : TextCall) (quiet : is_asking t ≡ false) (outcome : Outcome) (w : State)
    (answered : ◌≡◌ {A = Step} (record { outcome = outcome; handed = [] }) (plain_answer s t)) (left : plain_settle s t ≡ w) where
  pub nothing_goes : ◌≡◌ {A = Step} (record { outcome = outcome; handed = [] }) (answer s t)
  nothing_goes = goes_out s t quiet outcome [] w answered left w.gates refl [] w.gates refl

  pub nothing_stays : settle s t ≡ w
  nothing_stays = stays_out s t quiet outcome [] w answered left w.gates refl [] w.gates refl

-- ---- all that faces are told is handed to them
module _ (P : FaceId → Type 0) where
  key_to : (c : Core) (to : FaceId) → P to → (text : List ℕ) (make : DeclKey → Declare) (names : NamingState) → AllByRecursion (λ (h : Handed). P h.to) (tell_by c to text make names).handed
  key_to c to p text make names = by (told_key c to text names).declared
    where
      by : (o : Option ℕ) → AllByRecursion (λ (h : Handed). P h.to) (and_then (tell_number to text o names) (tell_declare to (make (told_key c to text names)))).handed
      by None = (p, tt)
      by (Some id) = (p, (p, tt))

  body_to : (c : Core) (t : Telling) → P t.to → (b : TellingBody) (names : NamingState) → AllByRecursion (λ (h : Handed). P h.to) (tell_body c t b names).handed
  body_to c t p (key_told id text info) names = key_to c t.to p text (λ k. record { interest = t.interest; node = t.node; body = body.DeclareQueryable id k.wire info }) names
  body_to c t p (key_ended id None) names = (p, tt)
  body_to c t p (key_ended id (Some text)) names = key_to c t.to p text (λ k. record { interest = t.interest; node = t.node; body = body.UndeclareQueryable id (Some k.wire) }) names
  body_to c t p all_told names = (p, tt)

  pub told_to_faces : (c : Core) (ts : List Telling) (names : NamingState) → AllByRecursion (λ (t : Telling). P t.to) ts → AllByRecursion (λ (h : Handed). P h.to) (tell c ts names).handed
  told_to_faces c [] names all = tt
  told_to_faces c (t ∷ ts) names all =
      all_append (λ (h : Handed). P h.to) (tell_body c t t.body names).handed (tell c ts (tell_body c t t.body names).names).handed
      (body_to c t all.0 t.body names) (told_to_faces c ts (tell_body c t t.body names).names all.1)

-- ---- messages to other faces go out alike with the gate of a face and without it
module _ (k : ℕ) where
  -- it is for another face
  abbrev pub IsAway : Handed → Type 0
  IsAway h = is_at (nat_cmp k) h.to.0 ≡ false

  abbrev shut : Gates → Gates
  shut = remove_entry (is_at (nat_cmp k))

  abbrev with_shut : Out → Out
  with_shut o = record o { gates = shut o.gates }

  module _ (h : Handed) (away : IsAway h) (gates : Gates) where
    same_through : (text : List ℕ) → through text (shut gates) h ≡ through text gates h
    same_through text = ap (λ (o : Option Gate). record h { leaves = leaves_by o text h.message }) (found_beside k h.to.0 away gates)

    same_keeping : keeping h (shut gates) ≡ shut (keeping h gates)
    same_keeping = ap (put_kept h.to.0 h.message (shut gates)) (found_beside k h.to.0 away gates) ∙ by (gate_at h.to.0 gates)
      where
        by : (o : Option Gate) → put_kept h.to.0 h.message (shut gates) o ≡ shut (put_kept h.to.0 h.message gates o)
        by None = refl
        by (Some g) = written_beside k h.to.0 away gates (kept_by h.message g)

    same_given : with_given h (shut gates) ≡ shut (with_given h gates)
    same_given = by (is_none h.leaves && gives h.message)
      where
        by : (b : Bool) → cond b (keeping h (shut gates)) (shut gates) ≡ shut (cond b (keeping h gates) gates)
        by true = same_keeping
        by false = refl

  away_out : (text : List ℕ) (hs : List Handed) → AllByRecursion IsAway hs → (gates : Gates) → let_out text hs (shut gates) ≡ with_shut (let_out text hs gates)
  away_out text [] all gates = refl
  away_out text (h ∷ hs) all gates =
      let m = through text gates h in
      ap (λ (x : Handed). out_first x (let_out text hs (with_given x (shut gates)))) (same_through h all.0 gates text)
      ∙ ap (λ (g : Gates). out_first m (let_out text hs g)) (same_given m all.0 gates)
      ∙ ap (out_first m) (away_out text hs all.1 (with_given m gates))

  -- a final goes out alike whatever the gates
  final_first : (text : List ℕ) (f : Final) (hs : List Handed) (gates : Gates) → let_out text (sent_final f ∷ hs) gates ≡ out_first (sent_final f) (let_out text hs gates)
  final_first text f hs gates = ap (λ (x : Handed). out_first x (let_out text hs (with_given x gates))) (final_through text gates f)

  pub finals_away : (text : List ℕ) (fs : List Final) (hs : List Handed) → AllByRecursion IsAway hs → (gates : Gates) → let_out text (map sent_final fs ++ hs) (shut gates) ≡ with_shut (let_out text (map sent_final fs ++ hs) gates)
  finals_away text [] hs all gates = away_out text hs all gates
  finals_away text (f ∷ fs) hs all gates =
      final_first text f (map sent_final fs ++ hs) (shut gates)
      ∙ ap (out_first (sent_final f)) (finals_away text fs hs all gates)
      ∙ ap with_shut (sym (final_first text f (map sent_final fs ++ hs) gates))
