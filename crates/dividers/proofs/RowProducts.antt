-- A table of products that keeps its rule, at each place.
use Rattle.std.proofs.Common.{◌≡◌, ℕ, ◌<◌, true, T, eqb, List, [], get_or, sym, ap, ◌∙◌, subst}
use Rattle.table.specs.Computed.{both, all_below, tabulates}
use Rattle.table.proofs.Tests.{both_left, both_right, below, agree}
use Rattle.power_form.specs.Arithmetic.{product}
use Rattle.dividers.specs.Coefficients.{coefficient_byte}
use Rattle.dividers.specs.Rows.{rows_right}

module _ (rows : List (List ℕ)) (rule : rows_right rows ≡ true) where
  first : ℕ → ℕ
  first k = get_or (get_or rows 1 []) k 0

  pub row_at : (f k : ℕ) → f < 256 → k < 32 → get_or (get_or rows f []) k 0 ≡ product f (coefficient_byte k)
  unfolding first rows_right tabulates
  row_at f k hf hk =
      let t : T (both (all_below 32 (λ k. eqb (first k) (coefficient_byte k))) (all_below 256 (λ f. all_below 32 (λ k. eqb (get_or (get_or rows f []) k 0) (product f (first k)))))) = subst T (sym rule) tt in
      agree 32 (λ k. get_or (get_or rows f []) k 0) (λ k. product f (first k))
      (below 256 (λ f. all_below 32 (λ k. eqb (get_or (get_or rows f []) k 0) (product f (first k)))) (both_right _ _ t) f hf) k hk
      ∙ ap (product f) (agree 32 first coefficient_byte (both_left _ _ t) k hk)
