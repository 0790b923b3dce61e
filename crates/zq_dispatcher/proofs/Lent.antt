-- A map of which one value was lent and came back as it was is as it was.
use Rattle.std.proofs.Common.{◌≡◌, ◌∙◌, sym, ap, Bool, List, Some, Result}
use Rattle.std.specs.Prelude.{OnErr}
use Rattle.std.specs.Map.{lookup, set_value}
use Rattle.std.proofs.lemmas.Map.Steps.{set_value_same}
use Rattle.std.proofs.lemmas.Result.{on_err_weaker}

pub kept_back : {K V X E : Type 0} (r : Result X E) (test : K → Bool) (entries : List (K × V)) (old new : V) (lender : V → List (K × V)) → lender old ≡ set_value test entries old → Some old ≡ lookup test entries → OnErr r (new ≡ old) → OnErr r (lender new ≡ entries)
kept_back r test entries old new lender written there kept = on_err_weaker r (λ e. ap lender e ∙ written ∙ set_value_same test entries old (sym there)) kept
