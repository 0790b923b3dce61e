-- The calls of a script fit their lines.
use Rattle.std.proofs.Common.{◌≡◌, ℕ, ◌+◌, ◌-◌, ◌<◌, List, [], ◌∷◌, ◌++◌, Option, Some, None, Result, Ok, Err, Bool, true, false, cond, refl, subst}
use Rattle.std.proofs.lemmas.List.Elements.{All-head, All-tail, All-nil, All-cons}
use Rattle.std.specs.Prelude.{◌==◌, ◌&&◌, nat_lt, codes, IfOk}
use Rattle.std.specs.Str.{bytes_eq}
use Rattle.std.specs.List.{AllByRecursion, onto_first}
use Rattle.zq_message.specs.declared.message.Zid.{Zid}
use Rattle.zq_machine.specs.declared.call.Call.{Call}
use Rattle.zq_machine.specs.declared.config.Entry.{Entry}
use Rattle.zq_machine.specs.declared.config.Counters.{Counters}
use Rattle.zq_machine.specs.Calls.{is_sent}
use Rattle.zq_machine.specs.Configs.{Settings, no_counts}
use Rattle.zq_io.specs.Fits.{IsBytes}
use Rattle.zq_lines.specs.Fits.{FitsCall}
use Rattle.zq_route.specs.declared.selection.Best.{Best}
use Rattle.zq_script.specs.Head.{Behind, Head, behind_config, best_at, best_of, start_of, config_of, start_at, ended, configured, headed, with_best, with_start, with_config, head_of}
use Rattle.zq_lines.specs.Split.{lines_of}
use Rattle.zq_script.specs.Script.{Parts, onto, new_part, with_line, script_call, parts_from, onto_parts, made, with_parts, script_of, Gives, Holds}
use Rattle.zq_script.specs.declared.refusal.ScriptRefusal.{ScriptRefusal}
use Rattle.zq_script.specs.declared.script.Script.{Script}
use Rattle.zq_lines.proofs.Given.{Given, no_one, one, bind, either, any_given}
use Rattle.zq_lines.proofs.GivenLines.{call_given}

-- the call of a line
call_fits : (shared : Bool) (line : List ℕ) → IsBytes line → Given FitsCall (script_call shared line)
call_fits shared line a = bind (call_given line a) (λ c p. either (shared && is_sent c) _ _ (λ e. no_one) (one {P = FitsCall} p))

-- parts of such calls
abbrev EachPart : (Call → Type 0) → Result Parts ℕ → Type 0
EachPart P (Ok parts) = AllByRecursion P parts.0 × AllByRecursion (AllByRecursion P) parts.1
EachPart P (Err n) = Unit {0}

new_each : (P : Call → Type 0) (r : Result Parts ℕ) → EachPart P r → EachPart P (new_part r)
new_each P (Ok parts) p = (tt, p)
new_each P (Err n) p = tt

onto_each : (P : Call → Type 0) (c : Call) (r : Result Parts ℕ) → P c → EachPart P r → EachPart P (onto c r)
onto_each P c (Ok parts) e p = ((e, p.0), p.1)
onto_each P c (Err n) e p = tt

line_each : (P : Call → Type 0) (n : ℕ) (o : Option Call) (r : Result Parts ℕ) → Given P o → EachPart P r → EachPart P (with_line n o r)
line_each P n None r g p = tt
line_each P n (Some c) r g p = onto_each P c r (g.at c refl) p

cond_each : (P : Call → Type 0) (b : Bool) (x y : Result Parts ℕ) → EachPart P x → EachPart P y → EachPart P (cond b x y)
cond_each P true x y p q = p
cond_each P false x y p q = q

parts_each : (P : Call → Type 0) (shared : Bool) → ((line : List ℕ) → IsBytes line → Given P (script_call shared line)) → (n workers : ℕ) (lines : List (List ℕ)) → AllByRecursion IsBytes lines → EachPart P (parts_from n shared workers lines)
parts_each P shared g n workers [] a = (tt, tt)
parts_each P shared g n workers (line ∷ lines) a =
    cond_each P (bytes_eq line (codes "worker")) _ _
    (cond_each P (nat_lt 0 workers) _ _ (new_each P _ (parts_each P shared g (n + 1) (workers - 1) lines a.1)) tt)
    (line_each P n (script_call shared line) _ (g line a.0) (parts_each P shared g (n + 1) workers lines a.1))

-- the lines of bytes
first_bytes : (b : ℕ) (ws : List (List ℕ)) → b < 256 → AllByRecursion IsBytes ws → AllByRecursion IsBytes (onto_first b ws)
first_bytes b [] f a = (All-cons (λ b. b < 256) b [] f (All-nil (λ b. b < 256)), tt)
first_bytes b (w ∷ ws) f a = (All-cons (λ b. b < 256) b w f a.0, a.1)

cond_bytes : (t : Bool) (x y : List (List ℕ)) → AllByRecursion IsBytes x → AllByRecursion IsBytes y → AllByRecursion IsBytes (cond t x y)
cond_bytes true x y p q = p
cond_bytes false x y p q = q

lines_bytes : (bytes : List ℕ) → IsBytes bytes → AllByRecursion IsBytes (lines_of bytes)
lines_bytes [] a = tt
lines_bytes (b ∷ bs) a =
    let more = lines_bytes bs (All-tail (λ b. b < 256) b bs a) in
    cond_bytes (b == 10) _ _ (All-nil (λ b. b < 256), more) (first_bytes b _ (All-head (λ b. b < 256) b bs a) more)

-- the lines behind the head
abbrev RestFits : Result Head ℕ → Type 0
RestFits (Ok head) = AllByRecursion IsBytes head.3
RestFits (Err n) = Unit {0}

headed_fits : (b : Behind) (r : Result Settings ℕ) → AllByRecursion IsBytes b.lines → RestFits (headed b r)
headed_fits b (Ok config) a = a
headed_fits b (Err m) a = tt

start_given : (lines : List (List ℕ)) → AllByRecursion IsBytes lines → Given (λ (s : Counters × List ℕ × List (List ℕ)). AllByRecursion IsBytes s.2) (start_at lines)
start_given [] a = no_one
start_given (line ∷ lines) a = bind (any_given (start_of line)) (λ start u. one {P = λ (s : Counters × List ℕ × List (List ℕ)). AllByRecursion IsBytes s.2} a.1)

best_given : (lines : List (List ℕ)) → AllByRecursion IsBytes lines → Given (λ (b : Best × List ℕ × List (List ℕ)). AllByRecursion IsBytes b.2) (best_at lines)
best_given [] a = no_one
best_given (line ∷ lines) a = bind (any_given (best_of line)) (λ choice u. one {P = λ (b : Best × List ℕ × List (List ℕ)). AllByRecursion IsBytes b.2} a.1)

best_fits : (start : Counters) (text : List ℕ) (n : ℕ) (lines : List (List ℕ)) (o : Option (Best × List ℕ × List (List ℕ))) → AllByRecursion IsBytes lines → Given (λ (b : Best × List ℕ × List (List ℕ)). AllByRecursion IsBytes b.2) o
    → AllByRecursion IsBytes (with_best start text n lines o).lines
best_fits start text n lines None a g = a
best_fits start text n lines (Some b) a g = g.at b refl

start_fits : (text : List ℕ) (lines : List (List ℕ)) (o : Option (Counters × List ℕ × List (List ℕ))) → AllByRecursion IsBytes lines → Given (λ (s : Counters × List ℕ × List (List ℕ)). AllByRecursion IsBytes s.2) o
    → AllByRecursion IsBytes (with_start text lines o).lines
start_fits text lines None a g = best_fits no_counts text 2 lines (best_at lines) a (best_given lines a)
start_fits text lines (Some s) a g = best_fits s.0 (text ++ ended s.1) 3 s.2 (best_at s.2) (g.at s refl) (best_given s.2 (g.at s refl))

config_fits : (line : List ℕ) (lines : List (List ℕ)) (o : Option (Zid × ℕ × List Entry)) → AllByRecursion IsBytes lines → RestFits (with_config line lines o)
config_fits line lines None a = tt
config_fits line lines (Some c) a =
    let b = behind_config line lines in
    headed_fits b (configured c b.start b.best) (start_fits (ended line) lines (start_at lines) a (start_given lines a))

head_fits : (lines : List (List ℕ)) → AllByRecursion IsBytes lines → RestFits (head_of lines)
head_fits [] a = tt
head_fits (line ∷ lines) a = config_fits line lines (config_of line) a.1

-- a script of such calls
abbrev HoldsScript : Result Script ℕ → Type 0
HoldsScript (Ok s) = Holds s
HoldsScript (Err n) = Unit {0}

made_holds : (head : Head) (r : Result Parts ℕ) → EachPart FitsCall r → HoldsScript (made head (onto_parts [] [] r))
made_holds head (Ok parts) p = p
made_holds head (Err n) p = tt

with_holds : (workers : ℕ) (h : Result Head ℕ) → RestFits h → HoldsScript (with_parts workers h)
with_holds workers (Ok head) a =
    made_holds head _ (parts_each FitsCall (nat_lt 0 workers) (λ line b. call_fits (nat_lt 0 workers) line b) head.2 workers head.3 a)
with_holds workers (Err n) a = tt

script_holds : (workers : ℕ) (bytes : List ℕ) (s : Script) → IsBytes bytes → script_of workers (lines_of bytes) ≡ Ok s → Holds s
script_holds workers bytes s a e = subst HoldsScript e (with_holds workers (head_of (lines_of bytes)) (head_fits (lines_of bytes) (lines_bytes bytes a)))

pub given_holds : (workers : ℕ) (bytes : List ℕ) (r : Result Script ScriptRefusal) → IsBytes bytes → Gives r (script_of workers (lines_of bytes)) → IfOk r Holds
given_holds workers bytes (Ok s) a g = script_holds workers bytes s a g
given_holds workers bytes (Err e) a g = tt
