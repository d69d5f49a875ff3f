-- The lanes of banks in a row, one by one.
use Rattle.std.specs.Prelude.{◌≡◌, ℕ, Result, IsErr, zero, suc, ◌+◌, ◌<◌, ◌≤◌, ◌++◌, replicate, cond, ◌&&◌, ltb, List, [], ◌∷◌, length, get_or, set, Ok, Err, nat_lt, slice_index_or, slice_set}
use Rattle.std.proofs.Math.Path.{sym, ap}
use Rattle.std.proofs.Common.{◌∙◌, arith}
use Rattle.std.proofs.lemmas.List.{length-map, map-set, get_or-map, get_or-set_same, set_past, ext_get_or, map-append, replicate_more}
use Rattle.std.proofs.lemmas.List.Edits.{fill_by_more}
use Rattle.std.proofs.lemmas.Bool.{lt-ltb, le-ltb}
use Rattle.polynomial.specs.Coefficients.{coeff}
use Rattle.dual_form.specs.DualForm.{symbol, dual_ops}
use Rattle.dual_form.specs.declared.element.Dual.{Dual}
use Rattle.bank.specs.declared.fault.BankFault.{BankFault}
use Rattle.bank.specs.declared.fault.BankFault.TheVariants.{NoSuchRegister}
use Rattle.bank.specs.Lanes.{Lanes, Shaped, zeros, all_cleared, answer, answer_if, lane_there, place_there, stepped, fed, placed, told}
use Rattle.rack.specs.Rows.{row}

module _ {D : Type 0} (lanes : D → Lanes) where
  pub length_row : (banks : List D) → length (row lanes banks) ≡ length banks
  unfolding row
  length_row banks = length-map banks (λ d. get_or (lanes d) 0 [])

  pub row_at : (banks : List D) (k : ℕ) (d : D) → k < length banks → slice_index_or (row lanes banks) k [] ≡ slice_index_or (lanes (slice_index_or banks k d)) 0 []
  unfolding row
  row_at banks k d h = get_or-map (λ d. get_or (lanes d) 0 []) banks k d [] h

  -- A bank whose only lane became x, in its row.
  pub changed : (banks : List D) (k : ℕ) (before after : D) (x : List Dual) → 0 < length (lanes before)
      → lanes after ≡ slice_set (lanes before) 0 x → row lanes (slice_set banks k after) ≡ slice_set (row lanes banks) k x
  unfolding row
  changed banks k before after x some e =
      map-set (λ d. get_or (lanes d) 0 []) banks k after
      ∙ ap (set (row lanes banks) k) (ap (λ l. get_or l 0 []) e ∙ get_or-set_same (lanes before) 0 x [] some)

  -- The bank at a place.
  module _ (banks : List D) (k : ℕ) (before : D) (h : k < length banks) (is : before ≡ slice_index_or banks k before) (single : (d : D) → length (lanes d) ≡ 1) where
    one : length (lanes before) ≡ 1
    one = single before

    held : get_or (row lanes banks) k [] ≡ slice_index_or (lanes before) 0 []
    held = row_at banks k before h ∙ ap (λ d. get_or (lanes d) 0 []) (sym is)

    pub there : ltb k (length (row lanes banks)) ≡ nat_lt 0 (length (lanes before))
    there = lt-ltb k _ (omega (arith, length_row banks)) ∙ sym (lt-ltb 0 (length (lanes before)) (omega arith))

    pub fed_row : (after : D) (byte : ℕ) → lanes after ≡ fed (lanes before) 0 byte → row lanes (slice_set banks k after) ≡ fed (row lanes banks) k byte
    fed_row after byte e =
        changed banks k before after _ (omega arith) e ∙ ap (λ x. set (row lanes banks) k (stepped x byte)) (sym held)

    pub placed_row : (after : D) (place byte : ℕ) → lanes after ≡ placed (lanes before) 0 place byte → row lanes (slice_set banks k after) ≡ placed (row lanes banks) k place byte
    placed_row after place byte e =
        changed banks k before after _ (omega arith) e ∙ ap (λ x. set (row lanes banks) k (slice_set x place (symbol byte))) (sym held)

    pub told_row : (place : ℕ) → told (lanes before) 0 place ≡ told (row lanes banks) k place
    told_row place =
        ap (λ x. cond (nat_lt 0 (length (lanes before)) && nat_lt place 32) (Ok (coeff dual_ops x place).byte) (Err NoSuchRegister)) (sym held)
        ∙ ap (λ t. cond (t && nat_lt place 32) (Ok (coeff dual_ops (slice_index_or (row lanes banks) k []) place).byte) (Err NoSuchRegister)) (sym there)

  -- No bank at this place.
  module _ (banks : List D) (k : ℕ) (past : length banks ≤ k) where
    off : length (row lanes banks) ≤ k
    off = omega (arith, length_row banks)

    pub past_lane : (r : Result (Unit {0}) BankFault) → IsErr r → answer r ≡ answer_if (lane_there (row lanes banks) k)
    past_lane (Err NoSuchRegister) h = rw (le-ltb _ _ off)
    past_lane (Ok x) h = cc

    pub past_place : (place : ℕ) (r : Result (Unit {0}) BankFault) → IsErr r → answer r ≡ answer_if (place_there (row lanes banks) k place)
    past_place place (Err NoSuchRegister) h = rw (le-ltb _ _ off)
    past_place place (Ok x) h = cc

    pub past_told : (place : ℕ) (r : Result ℕ BankFault) → IsErr r → r ≡ told (row lanes banks) k place
    past_told place (Err NoSuchRegister) h = rw (le-ltb _ _ off)
    past_told place (Ok x) h = cc

    pub past_kept : (x : List Dual) → row lanes banks ≡ slice_set (row lanes banks) k x
    past_kept x = sym (set_past _ _ _ off)

  pub row_wide : ((d : D) → length (lanes d) ≡ 1) → ((d : D) → Shaped (lanes d)) → (banks : List D) (k : ℕ) → k < length banks → length (slice_index_or (row lanes banks) k []) ≡ 32
  unfolding row
  row_wide single shape [] k h = absurd (omega arith)
  row_wide single shape (d ∷ ds) zero h = (shape d).wide 0 (omega (arith, single d))
  row_wide single shape (d ∷ ds) (suc k) h = row_wide single shape ds k (omega arith)

  pub row_shaped : (banks : List D) → 1 ≤ length banks → length banks ≤ 8 → ((d : D) → length (lanes d) ≡ 1) → ((d : D) → Shaped (lanes d)) → Shaped (row lanes banks)
  row_shaped banks some few single shape =
      let e = length_row banks in
      record {
        some = omega arith;
        few = omega arith;
        wide = λ k h. row_wide single shape banks k (omega arith);
      }

  -- One bank more cleared.
  pub cleared_more : (banks : List D) (i : ℕ) (after : D) (before : D) → i < length banks → length (lanes before) ≡ 1 → lanes after ≡ all_cleared (lanes before)
      → ((k : ℕ) → k < i → slice_index_or (row lanes banks) k [] ≡ zeros) → (k : ℕ) → k < i + 1 → slice_index_or (row lanes (slice_set banks i after)) k [] ≡ zeros
  unfolding row
  cleared_more banks i after before h one e so_far k below =
      let head : get_or (lanes after) 0 [] ≡ zeros = ap (λ l. get_or l 0 []) e ∙ get_or-map (λ _. zeros) (lanes before) 0 [] [] (omega arith) in
      ap (λ l. get_or l k []) (map-set (λ d. get_or (lanes d) 0 []) banks i after ∙ ap (set (row lanes banks) i) head)
      ∙ fill_by_more (λ _. zeros) (row lanes banks) i [] (omega (arith, length_row banks)) so_far k below

  pub cleared_all : (banks was : List D) → length banks ≡ length was → ((k : ℕ) → k < length was → slice_index_or (row lanes banks) k [] ≡ zeros)
      → row lanes banks ≡ all_cleared (row lanes was)
  cleared_all banks was long cleared =
      ext_get_or [] (row lanes banks) (all_cleared (row lanes was)) (omega (arith, length_row banks, length_row was, length-map (row lanes was) (λ _. zeros)))
      (λ k h. cleared k (omega (arith, length_row banks)) ∙ sym (get_or-map (λ _. zeros) (row lanes was) k [] [] (omega (arith, length_row banks, length_row was))))

  -- One bank more behind the others.
  pub row_pushed : (banks : List D) (d : D) (x : List Dual) (i : ℕ) → row lanes banks ≡ replicate i x → lanes d ≡ x ∷ [] → row lanes (banks ++ (d ∷ [])) ≡ replicate (i + 1) x
  unfolding row
  row_pushed banks d x i so_far e =
      map-append (λ d. get_or (lanes d) 0 []) banks (d ∷ []) ∙ ap (λ l. l ++ (get_or (lanes d) 0 [] ∷ [])) so_far
      ∙ ap (λ y. replicate i x ++ (y ∷ [])) (ap (λ l. get_or l 0 []) e) ∙ replicate_more i x
