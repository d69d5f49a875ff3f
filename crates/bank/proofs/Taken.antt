-- Lanes that take bytes one after another, and calls that are refused.
use Rattle.std.proofs.Common.{◌≡◌, ℕ, ◌+◌, ◌<◌, ◌≤◌, false, ◌⊎◌, List, [], ◌∷◌, ◌++◌, map, length, get_or, take, set, sym, ap, ◌∙◌, subst, inl, inr, arith, ltb-false}
use Rattle.std.proofs.lemmas.List.{set_past, set-set, set-get_or, get_or-map, get_or-set_same, length-map, map-append, take_more}
use Rattle.std.proofs.lemmas.Bool.{lt-ltb, cases_lt}
use Rattle.polynomial.specs.Coefficients.{shift}
use Rattle.dual_form.specs.DualForm.{symbol, dual_ops}
use Rattle.dual_form.specs.declared.element.Dual.{Dual}
use Rattle.dual_form.specs.DualLaws.{dual_laws}
use Rattle.code.specs.Code.{telemetry, of_symbols}
use Rattle.generator.specs.Claims.{Leaves}
use Rattle.generator.specs.Generator.{generator}
use Rattle.divider.specs.Registers.{registers, all_taken}
use Rattle.divider.proofs.Messages.{remainder}
use Rattle.divider.proofs.Registers.{all_taken_none, all_taken_more}
use Rattle.bank.specs.Claims.{Fed, Banks}
use Rattle.bank.specs.Lanes.{Lanes, Shaped, lane_there, place_there, zeros, all_cleared, stepped, all_stepped, fed, all_fed, placed}

pub stepped_none : (rs : List Dual) → all_stepped rs [] ≡ rs
unfolding all_stepped
stepped_none rs = all_taken_none dual_ops (generator dual_ops telemetry) rs

-- One byte more.
pub stepped_more : (rs : List Dual) (bytes : List ℕ) (byte : ℕ) → stepped (all_stepped rs bytes) byte ≡ all_stepped rs (bytes ++ byte ∷ [])
unfolding stepped all_stepped
stepped_more rs bytes byte =
    sym (ap (all_taken dual_ops (generator dual_ops telemetry) rs) (map-append symbol bytes (byte ∷ [])) ∙ all_taken_more dual_ops (generator dual_ops telemetry) rs (map symbol bytes) (symbol byte))

pub fed_none : (ls : Lanes) (lane : ℕ) → ls ≡ all_fed ls lane []
fed_none ls lane = sym (ap (set ls lane) (stepped_none (get_or ls lane [])) ∙ set-get_or ls lane [])

pub fed_more : (ls now : Lanes) (lane : ℕ) (bytes : List ℕ) (i : ℕ) → lane < length ls → i < length bytes → now ≡ all_fed ls lane (take i bytes)
    → fed now lane (get_or bytes i 0) ≡ all_fed ls lane (take (i + 1) bytes)
fed_more ls now lane bytes i there more so_far =
    let rs = all_stepped (get_or ls lane []) (take i bytes) in
    ap (λ t. fed t lane (get_or bytes i 0)) so_far
    ∙ set-set ls lane rs _
    ∙ ap (λ t. set ls lane (stepped t (get_or bytes i 0))) (get_or-set_same ls lane rs [] there)
    ∙ ap (set ls lane) (stepped_more (get_or ls lane []) (take i bytes) (get_or bytes i 0) ∙ ap (all_stepped (get_or ls lane [])) (sym (take_more bytes i 0 more)))

module _ (ls : Lanes) where
  refused_take : (lane byte : ℕ) → lane_there ls lane ≡ false → fed ls lane byte ≡ ls
  refused_take lane byte e = set_past ls lane _ (ltb-false lane (length ls) e)

  refused_set : Shaped ls → (lane place byte : ℕ) → place_there ls lane place ≡ false → placed ls lane place byte ≡ ls
  refused_set shape lane place byte e = go (cases_lt lane (length ls))
    where
      go : (lane < length ls) ⊎ (length ls ≤ lane) → placed ls lane place byte ≡ ls
      go (inl there) =
          let past : 32 ≤ place = ltb-false place 32 (rw (lt-ltb lane (length ls) there) at e) in
          ap (set ls lane) (set_past (get_or ls lane []) place (symbol byte) (omega (arith, shape.wide lane there))) ∙ set-get_or ls lane []
      go (inr past) = set_past ls lane _ past

  registers_held : (lane : ℕ) (bytes : List ℕ) → lane < length ls → get_or (all_fed (all_cleared ls) lane bytes) lane [] ≡ registers dual_ops telemetry (map symbol bytes)
  unfolding zeros all_stepped
  registers_held lane bytes there =
      get_or-set_same (all_cleared ls) lane _ [] (omega (arith, length-map ls (λ _. zeros)))
      ∙ ap (λ rs. all_stepped rs bytes) (get_or-map (λ _. zeros) ls lane [] [] there)

  pub lanes_fed : Fed ls
  lanes_fed = record {
    registers_held = registers_held;
    remainder = λ lane bytes there.
        subst (Leaves dual_ops telemetry (shift dual_ops 32 (of_symbols (map symbol bytes)))) (sym (registers_held lane bytes there))
        (remainder (record { ops = dual_ops; laws = dual_laws }) telemetry (map symbol bytes));
  }

pub banks : Banks
banks = record { refused = λ ls. record { take = refused_take ls; set = refused_set ls }; fed_lanes = lanes_fed }
