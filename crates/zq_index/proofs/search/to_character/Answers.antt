use Rattle.std.proofs.Common.{◌≡◌, ◌∙◌, sym, ap, subst, arith, ◌++◌, ◌∷◌, [], take, ◌<◌, ◌-◌, append_assoc}
use Rattle.std.specs.String.{string_bytes}
use Rattle.std.specs.declared.cmp.Ordering.TheVariants.{Less}
use Rattle.zq_index.specs.Skipping.{SkipsListed}
use Rattle.zq_index.specs.Texts.{text_cmp}
use Rattle.zq_index.proofs.Skipping.{is_less, skips_before}
use Rattle.zq_index.proofs.search.to_character.Goals as goal

pub returns-then-comes_before : goal.returns-then-comes_before
returns-then-comes_before c lists q skips =
    let key = c.args.key.now in
    let at = c.args.at in
    let less : c.args.byte - 1 < c.args.byte = omega (arith, c.if-byte-lt128.false) in
    let greatest = c.in_ok-write_greatest.ensures c.if-not-branch.false in
    let wrote : string_bytes c.write_greatest.new.bound ≡ take at key ++ (c.args.byte - 1) ∷ greatest.0 =
    greatest.1 ∙ ap (λ b. b ++ greatest.0) c.in_ok-write_byte-2.ensures
    ∙ ap (λ t. (take at t ++ (c.args.byte - 1) ∷ []) ++ greatest.0) c.as_bytes-2.ensures.value
    ∙ append_assoc (take at key) ((c.args.byte - 1) ∷ []) greatest.0 in
    let after : text_cmp key (string_bytes c.write_greatest.new.bound) ≡ Less =
    ap (text_cmp key) (sym c.as_str.ensures.value) ∙ is_less (text_cmp key c.as_str.result.now) (sym c.if-comes_before.ensures) in
    let nearer = skips_before q key at c.args.byte (c.args.byte - 1) greatest.0 less skips (ap (text_cmp key) (sym wrote) ∙ after) in
    subst (SkipsListed lists q key) (sym wrote) record { after = nearer.after; none = λ t above below listed. nearer.none t above below }
