use Rattle.std.proofs.Common.{◌≡◌, ◌++◌, ◌∙◌, refl, sym, ap, subst, take, drop, ℕ, List, ◌<◌, length, get_or, true}
use Rattle.std.specs.String.{string_bytes}
use Rattle.zq_index.specs.Skipping.{is_run, run_of, SkipsUnmixed}
use Rattle.zq_index.proofs.Skipping.{chunk_skipped}
use Rattle.zq_index.proofs.search.after_chunk.Goals as goal

pub returns : goal.returns
returns c found =
    let key = c.args.key.now in
    let q = c.args.q.now in
    let part = c.part_from-left.ensures in
    let facts = subst (λ (l : List ℕ). (42 < get_or key c.args.at 0) × (0 < length l) × (get_or key c.args.at 0 < get_or l 0 0) × (is_run (get_or l 0 0) ≡ true)) part.1 (c.if-not-goes_beyond.ensures refl) in
    let wrote : string_bytes c.write_text.new.bound ≡ take c.args.at key ++ run_of (take part.0 (drop c.args.place q)) =
    c.in_ok-write_text.ensures found ∙ c.as_slice.ensures.value ∙ c.in_ok-write_run.ensures ∙ ap (λ (l : List ℕ). take c.args.at key ++ run_of l) part.1 in
    subst (SkipsUnmixed q key) (sym wrote) (chunk_skipped key q c.args.at c.args.place part.0 c.requires.in_range c.requires.leads facts.0 facts.1 facts.2 facts.3)
