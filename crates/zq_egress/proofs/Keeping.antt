-- What is kept of a message at the gate of its face, what is dropped there, and how it is undone.
use Rattle.std.proofs.Common.{◌≡◌, ◌∙◌, refl, sym, ap, ℕ, Bool, true, false, cond, List, Option, Some, None, true≢false}
use Rattle.std.specs.BTreeMap.{is_at}
use Rattle.std.specs.Map.{set_value}
use Rattle.std.specs.Option.{is_some, option_map}
use Rattle.std.specs.Ordering.{nat_cmp}
use Rattle.std.proofs.lemmas.Bool.{false≢true}
use Rattle.std.proofs.lemmas.Cmp.{nat_cmp_total}
use Rattle.std.proofs.lemmas.Map.Lookups.{exact_unsigned}
use Rattle.std.proofs.lemmas.Map.Steps.{set_value_same}
use Rattle.zq_key.proofs.Lookups.{found_after_write}
use Rattle.zq_tables.proofs.Entries.{set_twice}
use Rattle.zq_machine.proofs.Changing.{itself}
use Rattle.zq_message.specs.declared.message.DeclareBody.{DeclareBody}
use Rattle.zq_message.specs.declared.message.DeclareBody.TheVariants as body
use Rattle.zq_message.specs.declared.message.Message.{Message}
use Rattle.zq_message.specs.declared.message.Message.TheVariants as message
use Rattle.zq_namespace.specs.Denied.{MuxState, mux_kept}
use Rattle.zq_namespace.specs.Leaves.{ExitState, body_gives, body_kept, gives, kept}
use Rattle.zq_namespace.specs.Undone.{body_undone, ended, given, mux_ended, mux_given, mux_undone, undone}
use Rattle.zq_namespace.specs.declared.kept.Kept.TheVariants.{Already}
use Rattle.zq_machine.specs.Gates.{Gate, Gates, ends_body, ends_given, gate_at, keeping, leaves_by, put_kept, through, with_given}
use Rattle.zq_machine.specs.Handing.{Handed}
use Rattle.zq_egress.specs.Exits.{put_exit}

-- ---- what a message does that neither gives nor ends anything
map_same : (f : ExitState → ExitState) (o : Option ExitState) → ((e : ExitState) → f e ≡ e) → option_map f o ≡ o
map_same f None same = refl
map_same f (Some e) same = ap Some (same e)

mux_same : (f : ExitState → ExitState) (s : MuxState) → ((e : ExitState) → f e ≡ e) → ◌≡◌ {A = MuxState} (record s { space = option_map f s.space }) s
mux_same f s same = ap (λ (o : Option ExitState). record s { space = o }) (map_same f s.space same)

ends_not_body : (b : DeclareBody) (e : ExitState) → ends_body b ≡ false → cond (body_gives b) e (body_kept e b) ≡ e
ends_not_body (body.DeclareKeyExpr id w) e h = refl
ends_not_body (body.UndeclareKeyExpr id) e h = absurd (true≢false h)
ends_not_body (body.DeclareQueryable id w info) e h = refl
ends_not_body (body.UndeclareQueryable id None) e h = absurd (true≢false h)
ends_not_body (body.UndeclareQueryable id (Some w)) e h = refl
ends_not_body body.DeclareFinal e h = refl

ends_not : (m : Message) (e : ExitState) → ends_given m ≡ false → ended e m ≡ e
ends_not (message.Interest i) e h = refl
ends_not (message.InterestFinal id) e h = absurd (true≢false h)
ends_not (message.Declare d) e h = ends_not_body d.body e h
ends_not (message.Request r) e h = refl
ends_not (message.Response r) e h = refl
ends_not (message.ResponseFinal f) e h = refl

gives_not_body : (b : DeclareBody) → ends_body b ≡ true → body_gives b ≡ false
gives_not_body (body.DeclareKeyExpr id w) h = absurd (false≢true h)
gives_not_body (body.UndeclareKeyExpr id) h = refl
gives_not_body (body.DeclareQueryable id w info) h = absurd (false≢true h)
gives_not_body (body.UndeclareQueryable id w) h = refl
gives_not_body body.DeclareFinal h = refl

gives_not : (m : Message) → ends_given m ≡ true → gives m ≡ false
gives_not (message.Interest i) h = absurd (false≢true h)
gives_not (message.InterestFinal id) h = refl
gives_not (message.Declare d) h = gives_not_body d.body h
gives_not (message.Request r) h = refl
gives_not (message.Response r) h = refl
gives_not (message.ResponseFinal f) h = refl

-- what was kept already is not undone
undone_not_body : (b : DeclareBody) (e : ExitState) → body_undone Already b e ≡ e
undone_not_body (body.DeclareKeyExpr id w) e = refl
undone_not_body (body.UndeclareKeyExpr id) e = refl
undone_not_body (body.DeclareQueryable id w info) e = refl
undone_not_body (body.UndeclareQueryable id w) e = refl
undone_not_body body.DeclareFinal e = refl

undone_not : (m : Message) (e : ExitState) → undone Already m e ≡ e
undone_not (message.Interest i) e = refl
undone_not (message.InterestFinal id) e = refl
undone_not (message.Declare d) e = undone_not_body d.body e
undone_not (message.Request r) e = refl
undone_not (message.Response r) e = refl
undone_not (message.ResponseFinal f) e = refl

-- ---- at the gate of a face
put_some : (face : ℕ) (f : MuxState → MuxState) (gates : Gates) (g : Gate) → gate_at face gates ≡ Some g → put_exit face f gates (gate_at face gates) ≡ set_value (is_at (nat_cmp face)) gates (record g { exit = f g.exit })
put_some face f gates g is = ap (put_exit face f gates) is

put_same : (face : ℕ) (f : MuxState → MuxState) (gates : Gates) → ((s : MuxState) → f s ≡ s) → put_exit face f gates (gate_at face gates) ≡ gates
put_same face f gates same = by (gate_at face gates) refl
  where
    by : (o : Option Gate) → gate_at face gates ≡ o → put_exit face f gates o ≡ gates
    by None is = refl
    by (Some g) is =
        ap (λ (s : MuxState). set_value (is_at (nat_cmp face)) gates (record g { exit = s })) (same g.exit)
        ∙ set_value_same (is_at (nat_cmp face)) gates g is

pub already_back : (face : ℕ) (m : Message) (gates : Gates) → put_exit face (mux_undone Already m) gates (gate_at face gates) ≡ gates
already_back face m gates = put_same face (mux_undone Already m) gates (λ s. mux_same (undone Already m) s (undone_not m))

put_kept_same : (h : Handed) (gates : Gates) (o : Option Gate) → put_exit h.to.0 (λ s. mux_kept s h.message) gates o ≡ put_kept h.to.0 h.message gates o
put_kept_same h gates None = refl
put_kept_same h gates (Some g) = refl

module _ (h : Handed) (gates : Gates) where
  -- an exit whose namespace keeps the message, where the test says so
  put_where : (Bool → ExitState → ExitState) → Bool → Gates
  put_where f b = put_exit h.to.0 (λ s. record s { space = option_map (f b) s.space }) gates (gate_at h.to.0 gates)

  pub given_at : put_exit h.to.0 (λ s. mux_given s h.message) gates (gate_at h.to.0 gates) ≡ cond (gives h.message) (keeping h gates) gates
  unfolding put_where
  given_at = by (gives h.message) refl
    where
      by : (b : Bool) → gives h.message ≡ b → put_exit h.to.0 (λ s. mux_given s h.message) gates (gate_at h.to.0 gates) ≡ cond b (keeping h gates) gates
      by true is = ap (put_where (λ b e. cond b (kept e h.message) e)) is ∙ put_kept_same h gates (gate_at h.to.0 gates)
      by false is = put_same h.to.0 (λ s. mux_given s h.message) gates (λ s. mux_same (λ e. given e h.message) s (λ e. ap (λ b. cond b (kept e h.message) e) is))

  pub ended_at : put_exit h.to.0 (λ s. mux_ended s h.message) gates (gate_at h.to.0 gates) ≡ cond (ends_given h.message) (keeping h gates) gates
  unfolding put_where
  ended_at = by (ends_given h.message) refl
    where
      by : (b : Bool) → ends_given h.message ≡ b → put_exit h.to.0 (λ s. mux_ended s h.message) gates (gate_at h.to.0 gates) ≡ cond b (keeping h gates) gates
      by true is = ap (put_where (λ b e. cond b e (kept e h.message))) (gives_not h.message is) ∙ put_kept_same h gates (gate_at h.to.0 gates)
      by false is = put_same h.to.0 (λ s. mux_ended s h.message) gates (λ s. mux_same (λ e. ended e h.message) s (λ e. ends_not h.message e is))

-- an exit that is undone at the gate of its face leaves the gates as they were
pub put_back : (face : ℕ) (f : MuxState → MuxState) (gates : Gates) (was now : Gate) → gate_at face gates ≡ Some was → record now { exit = f now.exit } ≡ was
    → put_exit face f (set_value (is_at (nat_cmp face)) gates now) (gate_at face (set_value (is_at (nat_cmp face)) gates now)) ≡ gates
put_back face f gates was now is back =
    let test = is_at (nat_cmp face) in
    put_some face f (set_value test gates now) now (found_after_write nat_cmp_total exact_unsigned face face now gates (ap is_some is) ∙ ap (λ b. cond b (Some now) (gate_at face gates)) (itself face))
    ∙ set_twice test gates now (record now { exit = f now.exit })
    ∙ ap (set_value test gates) back
    ∙ set_value_same test gates was is

-- ---- of a message that does not leave is kept what it gives
pub stays : (text : List ℕ) (h : Handed) (gates : Gates) → None ≡ leaves_by (gate_at h.to.0 gates) text h.message → with_given (through text gates h) gates ≡ put_exit h.to.0 (λ s. mux_given s h.message) gates (gate_at h.to.0 gates)
stays text h gates is = ap (λ (l : Option Message). with_given (record h { leaves = l }) gates) (sym is) ∙ sym (given_at h gates)
