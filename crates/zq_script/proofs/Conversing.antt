-- Lines that were answered so far, and the next.
use Rattle.std.proofs.Common.{◌≡◌, ℕ, ◌+◌, ◌-◌, ◌^◌, ◌<◌, List, [], ◌∷◌, ◌++◌, Option, Some, None, Ok, Err, refl, ap, sym, ◌∙◌, inl, inr, arith, Bool, true, false, length, take, append_assoc, length-append}
use Rattle.std.proofs.lemmas.List.{append-nil}
use Rattle.std.proofs.Math.Seq.{take-append-add}
use Rattle.std.specs.Prelude.{OnErr, OnOk, Result, is_err}
use Rattle.std.specs.Io.KnownBytes.{Appends, IsAtEnd, Keeps}
use Rattle.zq_io.specs.declared.transfer.ReadRefusal.{ReadRefusal}
use Rattle.zq_io.specs.declared.transfer.ReadRefusal.TheVariants as refusal
use Rattle.zq_io.specs.declared.transfer.TheConstants.{LIMIT}
use Rattle.zq_io.specs.Streams.{AppendsFront}
use Rattle.zq_io.proofs.Transfers.{appends_more, appends_none, consumes_none}
use Rattle.zq_lines.specs.Split.{lines_of}
use Rattle.zq_script.specs.Live.{AnswersAll, AnswersFront, AnswersSome, IsTooLong, LeavesLive, after_lines, all_words, answer, answer_words, answers, end_of, live_words}
use Rattle.zq_script.specs.Reading.{ReadsLines, ReadsPart}
use Rattle.zq_script.specs.Conversation.{Spoken, Taken, fresh, taken, then}
use Rattle.zq_script.specs.declared.running.Status.TheVariants as status

-- lines were read and answered: what was left and is, what was written and is, the number of the next line, and the conversation
pub record Conversed (left behind old new : Option (List ℕ)) (n : ℕ) (s : Spoken) : Type 0 where
  pub lines : List (List ℕ)
  pub read : ReadsLines left behind lines
  pub answered : Appends old new (live_words lines)
  pub counted : n ≡ length lines + 1
  pub told : s ≡ after_lines fresh lines

reads_none : (a : Option (List ℕ)) → ReadsLines a a []
reads_none None = tt
reads_none (Some xs) = refl

pub begun : (left old : Option (List ℕ)) (s : Spoken) → s ≡ fresh → Conversed left left old old 1 s
begun left old s e = record { lines = []; read = reads_none left; answered = appends_none old; counted = omega arith; told = e }

reads_more : (a b c : Option (List ℕ)) (xs ys : List (List ℕ)) → ReadsLines a b xs → ReadsLines b c ys → ReadsLines a c (xs ++ ys)
reads_more None b c xs ys h k = tt
reads_more (Some p) None c xs ys h k = absurd h
reads_more (Some p) (Some q) None xs ys h k = absurd k
reads_more (Some p) (Some q) (Some r) xs ys h k = h ∙ ap (λ l. xs ++ l) k ∙ sym (append_assoc xs ys (lines_of r))

words_of_answer : (n : ℕ) (s : Spoken) (line : List ℕ) (t : Option Taken) → (answer n s line t).words ≡ answer_words n s line t
words_of_answer n s line None = refl
words_of_answer n s line (Some t) = refl

-- the answers to lines and to one more
words_more : (n : ℕ) (s : Spoken) (xs : List (List ℕ)) (line : List ℕ)
    → all_words (answers n s (xs ++ line ∷ [])) ≡ all_words (answers n s xs) ++ answer_words (n + length xs) (after_lines s xs) line (taken (after_lines s xs) line)
words_more n s [] line =
    let same : n ≡ n + 0 = omega arith in
    append-nil (answer n s line (taken s line)).words ∙ words_of_answer n s line (taken s line) ∙ ap (λ i. answer_words i s line (taken s line)) same
words_more n s (x ∷ xs) line =
    let t = then s (taken s x) in
    let same : n + 1 + length xs ≡ n + length (x ∷ xs) = omega arith in
    ap (λ l. (answer n s x (taken s x)).words ++ l) (words_more (n + 1) t xs line)
    ∙ sym (append_assoc (answer n s x (taken s x)).words (all_words (answers (n + 1) t xs)) (answer_words (n + 1 + length xs) (after_lines t xs) line (taken (after_lines t xs) line)))
    ∙ ap (λ i. all_words (answers n s (x ∷ xs)) ++ answer_words i (after_lines t xs) line (taken (after_lines t xs) line)) same

after_more : (s : Spoken) (xs : List (List ℕ)) (line : List ℕ) → after_lines s (xs ++ line ∷ []) ≡ then (after_lines s xs) (taken (after_lines s xs) line)
after_more s [] line = refl
after_more s (x ∷ xs) line = after_more (then s (taken s x)) xs line

-- what is written once the next line is answered, too
live_more : (lines : List (List ℕ)) (n : ℕ) (s : Spoken) (line : List ℕ) → n ≡ length lines + 1 → s ≡ after_lines fresh lines → live_words (lines ++ line ∷ []) ≡ live_words lines ++ answer_words n s line (taken s line)
live_more lines n s line e f =
    let same : 1 + length lines ≡ n = omega (arith, e) in
    words_more 1 fresh lines line ∙ ap (λ i. live_words lines ++ answer_words i (after_lines fresh lines) line (taken (after_lines fresh lines) line)) same
    ∙ ap (λ (t : Spoken). live_words lines ++ answer_words n t line (taken t line)) (sym f)

-- the next line was read, and its answer taken
pub converse_on : (a b c o p q : Option (List ℕ)) (n : ℕ) (s then_s : Spoken) (line words : List ℕ) → Conversed a b o p n s → ReadsLines b c (line ∷ []) → words ≡ answer_words n s line (taken s line)
    → then_s ≡ then s (taken s line) → Appends p q words → Conversed a c o q (n + 1) then_s
converse_on a b c o p q n s then_s line words h r e f w =
    let lines = h.lines in
    let all : live_words (lines ++ line ∷ []) ≡ live_words lines ++ words = live_more lines n s line h.counted h.told ∙ ap (λ l. live_words lines ++ l) (sym e) in
    record {
      lines = lines ++ line ∷ [];
      read = reads_more a b c lines (line ∷ []) h.read r;
      answered = rw all (appends_more o p q (live_words lines) words h.answered w);
      counted = omega (arith, h.counted, length-append lines (line ∷ []));
      told = f ∙ ap (λ (t : Spoken). then t (taken t line)) h.told ∙ sym (after_more fresh lines line);
    }

-- the next line was read, and a front of its answer taken
pub cut_off : (a b c o p q : Option (List ℕ)) (n : ℕ) (s : Spoken) (line words : List ℕ) → Conversed a b o p n s → ReadsLines b c (line ∷ []) → words ≡ answer_words n s line (taken s line)
    → AppendsFront p q words → AnswersFront a o q
cut_off a b c o p q n s line words h r e w =
    let lines = h.lines in
    let all : live_words (lines ++ line ∷ []) ≡ live_words lines ++ words = live_more lines n s line h.counted h.told ∙ ap (λ l. live_words lines ++ l) (sym e) in
    let size : length (live_words (lines ++ line ∷ [])) ≡ length (live_words lines) + length words = ap length all ∙ length-append (live_words lines) words in
    let front : take (length (live_words lines) + w.0) (live_words (lines ++ line ∷ [])) ≡ live_words lines ++ take w.0 words = rw all (take-append-add (live_words lines) words w.0) in (
      lines ++ line ∷ [],
      c,
      reads_more a b c lines (line ∷ []) h.read r,
      (length (live_words lines) + w.0, omega (arith, size, w.1), rw front (appends_more o p q (live_words lines) (take w.0 words) h.answered w.2)),
    )

-- the end was read
pub at_end : (a b c o p : Option (List ℕ)) (n : ℕ) (s : Spoken) → Conversed a b o p n s → Keeps b c → IsAtEnd c → LeavesLive status.Done a c o p
at_end None b c o p n s h k e = (e, tt)
at_end (Some x) None c o p n s h k e = absurd h.read
at_end (Some x) (Some y) None o p n s h k e = absurd k
at_end (Some x) (Some y) (Some z) o p n s h k e =
    let nothing : y ≡ [] = sym k ∙ e in
    let all : lines_of x ≡ h.lines = h.read ∙ ap (λ l. h.lines ++ lines_of l) nothing ∙ append-nil h.lines in
    (e, rw all h.answered)

-- no line was read
pub no_line : (r : ReadRefusal) (a b c o p : Option (List ℕ)) (n : ℕ) (s : Spoken) (part : List ℕ) → Conversed a b o p n s → ReadsPart b c part
    → (◌≡◌ {A = Result Bool ReadRefusal} (Err r) (Err refusal.TooLong) → LIMIT < length part) → LeavesLive (end_of r) a c o p
no_line refusal.ReadFault a b c o p n s part h k l = (h.lines, b, part, h.read, k, tt, h.answered)
no_line refusal.TooLong a b c o p n s part h k l = (h.lines, b, part, h.read, k, inl (l refl), h.answered)
no_line refusal.OutOfMemory a b c o p n s part h k l = (h.lines, b, h.read, h.answered)

-- no memory was found for an answer
pub no_answer : (a b o p : Option (List ℕ)) (n : ℕ) (s : Spoken) → Conversed a b o p n s → AnswersSome a o p
no_answer a b o p n s h = (h.lines, b, h.read, h.answered)

-- no number is left for the next line
pub no_number : (a b o p : Option (List ℕ)) (n : ℕ) (s : Spoken) → Conversed a b o p n s → n ≡ 2 ^ 64 - 1 → AnswersAll IsTooLong a b o p
no_number a b o p n s h e = (h.lines, b, [], h.read, (consumes_none b, tt), inr (omega (arith, h.counted, e)), h.answered)

pub on_ok : {T E : Type 0} (r : Result T E) (P : Type 0) → is_err r ≡ false → OnOk r P → P
on_ok (Ok x) P e h = h
on_ok (Err x) P e h = absurd (cc)

pub on_err : {T E : Type 0} (r : Result T E) (P : Type 0) → is_err r ≡ true → OnErr r P → P
on_err (Ok x) P e h = absurd (cc)
on_err (Err x) P e h = h
