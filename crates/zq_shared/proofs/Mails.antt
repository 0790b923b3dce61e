-- Messages that go on where others were sent.
use Rattle.std.proofs.Common.{◌≡◌, ℕ, ◌+◌, List, [], ◌∷◌, ◌++◌, length, take, Option, Some, None, Result, Ok, Err, refl, sym, ap, ◌∙◌, subst, arith, append_assoc, length-append}
use Rattle.std.specs.List.{cons_option}
use Rattle.std.specs.Prelude.{IfSome}
use Rattle.std.proofs.lemmas.List.{append-nil, take-append-le}
use Rattle.std.proofs.lemmas.List.Elements.{All-nil, All-cons, All-append, filter-append}
use Rattle.std.proofs.Math.Seq.{take-append-add}
use Rattle.zq_machine.specs.declared.call.Call.{Call}
use Rattle.zq_machine.specs.Configs.{Settings}
use Rattle.zq_machine.specs.Handing.{Handed}
use Rattle.zq_shared.specs.Links.{leaves, leaving, with_taken}
use Rattle.zq_shared.specs.Answers.{AllFinals, IsFinal}
use Rattle.zq_shared.specs.Sending.{Mail, Breaks, Delivers, DeliversFinals, Fails, GoesOn, Sends, Takes, counted}

taken_more : (o : Option (List Handed)) (xs ys : List Handed) → with_taken (with_taken o xs) ys ≡ with_taken o (xs ++ ys)
taken_more None xs ys = refl
taken_more (Some l) xs ys = ap Some (append_assoc l xs ys)

taken_none : (o : Option (List Handed)) → o ≡ with_taken o []
taken_none None = refl
taken_none (Some l) = ap Some (sym (append-nil l))

takes_on : (n m : ℕ) (hs gs : List Handed) (a b c : Mail) (r : Result ℕ ℕ) → Takes n hs a b (Ok m) → Takes m gs b c r → Takes n (hs ++ gs) a c r
takes_on n m hs gs a b c (Ok p) h k =
    let h0 = h.0 in let k0 = k.0 in (
      omega (arith, length-append hs gs),
      k.1 ∙ (ap (λ o. with_taken o gs) h.1 ∙ taken_more a.taken hs gs),
      k.2 ∙ h.2,
    )
takes_on n m hs gs a b c (Err p) h k =
    let h0 = h.0 in let k0 = k.1 in let k1 = k.2 in (
      length hs + k.0,
      omega (arith, length-append hs gs),
      omega arith,
      k.3 ∙ (ap (λ o. with_taken o (take k.0 gs)) h.1 ∙ (taken_more a.taken hs (take k.0 gs) ∙ ap (with_taken a.taken) (sym (take-append-add hs gs k.0)))),
      subst (λ f. Fails f c.faults) h.2 k.4,
    )

goes_on : (hs gs : List Handed) (a b c : Mail) (r s : Result ℕ ℕ) → a.sent ≡ r → b.sent ≡ s → GoesOn r hs a b → GoesOn s gs b c → GoesOn r (hs ++ gs) a c
goes_on hs gs a b c (Ok n) (Ok m) x y h k = takes_on n m hs gs a b c c.sent (subst (Takes n hs a b) y h) k
goes_on hs gs a b c (Ok n) (Err m) x y h k =
    let broken : Takes n hs a b (Err m) = subst (Takes n hs a b) y h in
    let longer : Takes n (hs ++ gs) a b (Err m) = (
      broken.0,
      (let few = broken.1 in omega (arith, length-append hs gs)),
      broken.2,
      broken.3 ∙ ap (with_taken a.taken) (sym (take-append-le broken.0 hs gs broken.1)),
      broken.4,
    ) in
    subst (λ (m : Mail). Takes n (hs ++ gs) a m m.sent) (sym k) (subst (Takes n (hs ++ gs) a b) (sym y) longer)
goes_on hs gs a b c (Err n) s x y h k =
    let same : GoesOn (Err n) gs b c = subst (λ (r : Result ℕ ℕ). GoesOn r gs b c) (sym y ∙ (ap (λ (m : Mail). m.sent) h ∙ x)) k in
    same ∙ h

pub delivers_on : (hs gs : List Handed) (a b c : Mail) → Delivers hs a b → Delivers gs b c → Delivers (hs ++ gs) a c
delivers_on hs gs a b c h k = subst (λ (l : List Handed). GoesOn a.sent l a c) (sym (filter-append leaves hs gs)) (goes_on (leaving hs) (leaving gs) a b c a.sent b.sent refl refl h k)

pub none_sent : (a : Mail) (r : Result ℕ ℕ) → a.sent ≡ r → GoesOn r [] a a
none_sent a (Ok n) e = subst (Takes n [] a a) (sym e) ((let P : ℕ → Type 0 = λ m. counted n ≡ counted m in omega arith), taken_none a.taken, refl)
none_sent a (Err n) e = refl

module _ (config : Settings) (list : Option (List Call)) where
  pub finals_none : (a : Mail) → DeliversFinals config list a a
  finals_none a = ([], All-nil (IsFinal config list), none_sent a a.sent refl)

  pub finals_one : (a b : Mail) (o : Option Handed) → IfSome o (IsFinal config list) → Delivers (cons_option o []) a b → DeliversFinals config list a b
  finals_one a b None final k = ([], All-nil (IsFinal config list), k)
  finals_one a b (Some h) final k = (h ∷ [], All-cons (IsFinal config list) h [] final (All-nil (IsFinal config list)), k)

  pub finals_on : (a b c : Mail) → DeliversFinals config list a b → DeliversFinals config list b c → DeliversFinals config list a c
  finals_on a b c h k = (h.0 ++ k.0, All-append (IsFinal config list) h.0 k.0 h.1 k.1, delivers_on h.0 k.0 a b c h.2 k.2)

  -- the step's messages, the finals that were settled under the lock, and those that were settled then
  delivered : (handed finals : List Handed) (a b c d : Mail) → Delivers handed a b → AllFinals config list finals → Delivers finals b c → DeliversFinals config list c d
      → (fs : List Handed) × AllFinals config list fs × Delivers (handed ++ fs) a d
  delivered handed finals a b c d h all k m =
      let rest = finals_on b c d (finals, all, k) m in
      (rest.0, rest.1, delivers_on handed rest.0 a b d h rest.2)

  pub went : (handed finals hs fs : List Handed) (a b c d e : Mail) → hs ≡ handed → fs ≡ finals → Delivers hs a b → AllFinals config list finals → Delivers fs b c → DeliversFinals config list c d → DeliversFinals config list d e
      → (fs : List Handed) × AllFinals config list fs × Delivers (handed ++ fs) a e
  went handed finals hs fs a b c d e x y h all k m n =
      delivered handed finals a b c e (subst (λ (l : List Handed). Delivers l a b) x h) all (subst (λ (l : List Handed). Delivers l b c) y k) (finals_on c d e m n)

  module _ (handed : List Handed) (a d : Mail) (start : a.sent ≡ Ok 0) where
    pub sends_all : (n : ℕ) → d.sent ≡ Ok n → (fs : List Handed) × AllFinals config list fs × Delivers (handed ++ fs) a d → Sends config list handed a.taken d.taken × (d.faults ≡ a.faults)
    sends_all n e h =
        let took : Takes 0 (leaving (handed ++ h.0)) a d (Ok n) = subst (Takes 0 (leaving (handed ++ h.0)) a d) e (subst (λ (r : Result ℕ ℕ). GoesOn r (leaving (handed ++ h.0)) a d) start h.2) in
        ((h.0, h.1, took.1), took.2)

    pub breaks_at : (n : ℕ) → d.sent ≡ Err n → (fs : List Handed) × AllFinals config list fs × Delivers (handed ++ fs) a d → Fails a.faults d.faults × Breaks config list handed n a.taken d.taken
    breaks_at n e h =
        let took : Takes 0 (leaving (handed ++ h.0)) a d (Err n) = subst (Takes 0 (leaving (handed ++ h.0)) a d) e (subst (λ (r : Result ℕ ℕ). GoesOn r (leaving (handed ++ h.0)) a d) start h.2) in
        let many = took.2 in
        (took.4, (h.0, h.1, took.0, took.1, omega arith, took.3))
