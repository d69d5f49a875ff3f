-- What the front of a text says of a bank, byte by byte.
use Rattle.std.proofs.Common.{◌≡◌, Bor, nat_eq, true, false, Some, None, ℕ, zero, suc, ◌+◌, ◌-◌, ◌<◌, ◌≤◌, List, [], ◌∷◌, ◌++◌, length, take, drop, sym, refl, ap, ◌∙◌, subst, arith}
use Rattle.std.specs.Cmp.Lexicographic.{pointwise}
use Rattle.std.proofs.lemmas.Bool.Decides.{Decides-eqb}
use Rattle.std.proofs.lemmas.List.{append_assoc}
use Rattle.std.proofs.lemmas.Slice.Eq.{strip_prefix_is}
use Rattle.lineup.specs.Plans.{Plan, table, serial, tables, pair, holder, plan_text, Within, Begins, BeginsNone}

pub no_bytes : (text : List ℕ) → length text ≤ 0 → text ≡ []
no_bytes [] h = refl
no_bytes (x ∷ xs) h = absurd (omega arith)

-- What is told of a text's first byte by taking it off.
pub unlike : (text : List ℕ) (byte : ℕ) → pointwise nat_eq (take 1 text) (byte ∷ []) ≡ false → (rest : List ℕ) → text ≡ byte ∷ rest → ⊥
unlike text byte h = strip_prefix_is Decides-eqb text (byte ∷ []) None h

pub stripped : (text : List ℕ) (byte : ℕ) (rest : Bor (List ℕ))
    → (pointwise nat_eq (take 1 text) (byte ∷ []) ≡ true) × (rest.now ≡ drop 1 text) × (length rest.now + 1 ≡ length text) → text ≡ byte ∷ rest.now
stripped text byte rest h = strip_prefix_is Decides-eqb text (byte ∷ []) (Some rest) h

-- The number below suc n.
less : (n : ℕ) → suc n - 1 ≡ n
less n = omega arith

same_rest : {x y : ℕ} {xs ys : List ℕ} → x ∷ xs ≡ y ∷ ys → xs ≡ ys
same_rest e = cc

same_first : {x y : ℕ} {xs ys : List ℕ} → x ∷ xs ≡ y ∷ ys → x ≡ y
same_first e = cc

pair_text : (x y : Plan) (s : List ℕ) → plan_text (pair x y) ++ s ≡ 40 ∷ (plan_text x ++ 44 ∷ (plan_text y ++ 41 ∷ s))
unfolding plan_text
pair_text x y s =
    ap (λ l. 40 ∷ l) (append_assoc (plan_text x) (44 ∷ (plan_text y ++ 41 ∷ [])) s ∙ ap (λ l. plan_text x ++ 44 ∷ l) (append_assoc (plan_text y) (41 ∷ []) s))

holder_text : (x : Plan) (s : List ℕ) → plan_text (holder x) ++ s ≡ 104 ∷ 91 ∷ (plan_text x ++ 93 ∷ s)
unfolding plan_text
holder_text x s = ap (λ l. 104 ∷ 91 ∷ l) (append_assoc (plan_text x) (93 ∷ []) s)

-- What follows a plan's text is determined.
pub same_behind : (n m : ℕ) (p q : Plan) (s t : List ℕ) → Within n p → Within m q → plan_text p ++ s ≡ plan_text q ++ t → s ≡ t
unfolding plan_text
same_behind n m table table s t hp hq e = same_rest e
same_behind n m table serial s t hp hq e = absurd (omega (arith, same_first e))
same_behind n m table (tables j) s t hp hq e = absurd (omega (arith, same_first e))
same_behind n m table (pair u v) s t hp hq e = absurd (omega (arith, same_first e))
same_behind n m table (holder u) s t hp hq e = absurd (omega (arith, same_first e))
same_behind n m serial table s t hp hq e = absurd (omega (arith, same_first e))
same_behind n m serial serial s t hp hq e = same_rest e
same_behind n m serial (tables j) s t hp hq e = absurd (omega (arith, same_first e))
same_behind n m serial (pair u v) s t hp hq e = absurd (omega (arith, same_first e))
same_behind n m serial (holder u) s t hp hq e = absurd (omega (arith, same_first e))
same_behind n m (tables k) table s t hp hq e = absurd (omega (arith, same_first e))
same_behind n m (tables k) serial s t hp hq e = absurd (omega (arith, same_first e))
same_behind n m (tables k) (tables j) s t hp hq e = same_rest e
same_behind n m (tables k) (pair u v) s t hp hq e = absurd (omega (arith, same_first e))
same_behind n m (tables k) (holder u) s t hp hq e = absurd (omega (arith, same_first e))
same_behind n m (pair x y) table s t hp hq e = absurd (omega (arith, same_first e))
same_behind n m (pair x y) serial s t hp hq e = absurd (omega (arith, same_first e))
same_behind n m (pair x y) (tables j) s t hp hq e = absurd (omega (arith, same_first e))
same_behind zero m (pair x y) (pair u v) s t hp hq e = absurd hp
same_behind (suc n) zero (pair x y) (pair u v) s t hp hq e = absurd hq
same_behind (suc n) (suc m) (pair x y) (pair u v) s t hp hq e =
    let inner = same_rest (sym (pair_text x y s) ∙ e ∙ pair_text u v t) in
    let right = same_rest (same_behind n m x u (44 ∷ (plan_text y ++ 41 ∷ s)) (44 ∷ (plan_text v ++ 41 ∷ t)) hp.0 hq.0 inner) in
    same_rest (same_behind n m y v (41 ∷ s) (41 ∷ t) hp.1 hq.1 right)
same_behind n m (pair x y) (holder u) s t hp hq e = absurd (omega (arith, same_first e))
same_behind n m (holder x) table s t hp hq e = absurd (omega (arith, same_first e))
same_behind n m (holder x) serial s t hp hq e = absurd (omega (arith, same_first e))
same_behind n m (holder x) (tables j) s t hp hq e = absurd (omega (arith, same_first e))
same_behind n m (holder x) (pair u v) s t hp hq e = absurd (omega (arith, same_first e))
same_behind zero m (holder x) (holder u) s t hp hq e = absurd hp
same_behind (suc n) zero (holder x) (holder u) s t hp hq e = absurd hq
same_behind (suc n) (suc m) (holder x) (holder u) s t hp hq e =
    same_rest (same_behind n m x u (93 ∷ s) (93 ∷ t) hp hq (same_rest (same_rest (sym (holder_text x s) ∙ e ∙ holder_text u t))))

module _ (n : ℕ) (text : List ℕ) where
  pub no_text : text ≡ [] → BeginsNone n text
  unfolding plan_text
  no_text e table rest b = absurd (omega (arith, ap length (sym e ∙ b.text_is)))
  no_text e serial rest b = absurd (omega (arith, ap length (sym e ∙ b.text_is)))
  no_text e (tables k) rest b = absurd (omega (arith, ap length (sym e ∙ b.text_is)))
  no_text e (pair x y) rest b = absurd (omega (arith, ap length (sym e ∙ b.text_is)))
  no_text e (holder x) rest b = absurd (omega (arith, ap length (sym e ∙ b.text_is)))

  -- A first byte that begins no bank, or none so shallow.
  pub no_first : (first : ℕ) (behind : List ℕ) → text ≡ first ∷ behind → (first ≡ 84 → ⊥) → (first ≡ 66 → ⊥) → (50 ≤ first → first ≤ 56 → ⊥)
      → (first ≡ 104 → 0 < n → ⊥) → (first ≡ 40 → 0 < n → ⊥) → BeginsNone n text
  unfolding plan_text
  no_first first behind e T B D H P table rest b = T (same_first (sym e ∙ b.text_is))
  no_first first behind e T B D H P serial rest b = B (same_first (sym e ∙ b.text_is))
  no_first first behind e T B D H P (tables k) rest b =
      let f = same_first (sym e ∙ b.text_is) in
      let h = b.within in
      D (omega (arith, f, h.0)) (omega (arith, f, h.1))
  no_first first behind e T B D H P (pair x y) rest b = P (same_first (sym e ∙ b.text_is)) (deep n b.within)
    where
      deep : (n : ℕ) → Within n (pair x y) → 0 < n
      deep zero h = absurd h
      deep (suc n) h = omega arith
  no_first first behind e T B D H P (holder x) rest b = H (same_first (sym e ∙ b.text_is)) (deep n b.within)
    where
      deep : (n : ℕ) → Within n (holder x) → 0 < n
      deep zero h = absurd h
      deep (suc n) h = omega arith

  pub table_begins : (rest : List ℕ) → text ≡ 84 ∷ rest → Begins n text rest table
  unfolding plan_text
  table_begins rest e = record { within = tt; text_is = e }

  pub serial_begins : (rest : List ℕ) → text ≡ 66 ∷ rest → Begins n text rest serial
  unfolding plan_text
  serial_begins rest e = record { within = tt; text_is = e }

  pub tables_begin : (first : ℕ) (rest : List ℕ) → text ≡ first ∷ rest → 50 ≤ first → first ≤ 56 → Begins n text rest (tables (first - 48))
  unfolding plan_text
  tables_begin first rest e low high =
      let f : first ≡ 48 + (first - 48) = omega arith in
      record { within = (omega arith, omega arith); text_is = e ∙ ap (λ b. b ∷ rest) f }

  -- A text that begins as a holder does.
  module _ (rest : List ℕ) (e : text ≡ 104 ∷ rest) where
    as_holder : (p : Plan) (tail : List ℕ) → Begins n text tail p → (x : Plan) × Within (n - 1) x × (rest ≡ 91 ∷ (plan_text x ++ 93 ∷ tail))
    unfolding plan_text
    as_holder table tail b = absurd (omega (arith, same_first (sym e ∙ b.text_is)))
    as_holder serial tail b = absurd (omega (arith, same_first (sym e ∙ b.text_is)))
    as_holder (tables k) tail b = let h = b.within in absurd (omega (arith, same_first (sym e ∙ b.text_is), h.1))
    as_holder (pair x y) tail b = absurd (omega (arith, same_first (sym e ∙ b.text_is)))
    as_holder (holder x) tail b = (x, inner n b.within, same_rest (sym e ∙ b.text_is ∙ holder_text x tail))
      where
        inner : (n : ℕ) → Within n (holder x) → Within (n - 1) x
        inner zero h = absurd h
        inner (suc n) h = subst (λ m. Within m x) (sym (less n)) h

    pub holder_unopened : ((r : List ℕ) → rest ≡ 91 ∷ r → ⊥) → BeginsNone n text
    holder_unopened none p tail b = none _ (as_holder p tail b).2

    module _ (inner : List ℕ) (opened : rest ≡ 91 ∷ inner) where
      pub holder_empty : BeginsNone (n - 1) inner → BeginsNone n text
      holder_empty none p tail b = let h = as_holder p tail b in none h.0 (93 ∷ tail) (record { within = h.1; text_is = same_rest (sym opened ∙ h.2) })

      pub holder_unclosed : (q : Plan) (last : List ℕ) → Begins (n - 1) inner last q → ((r : List ℕ) → last ≡ 93 ∷ r → ⊥) → BeginsNone n text
      holder_unclosed q last read none p tail b =
          let h = as_holder p tail b in
          none tail (same_behind (n - 1) (n - 1) q h.0 last (93 ∷ tail) read.within h.1 (sym read.text_is ∙ same_rest (sym opened ∙ h.2)))

      pub holder_begins : 0 < n → (q : Plan) (last tail : List ℕ) → Begins (n - 1) inner last q → last ≡ 93 ∷ tail → Begins n text tail (holder q)
      holder_begins deep q last tail read closed = record {
        within = outer n deep read.within;
        text_is = e ∙ ap (λ l. 104 ∷ l) (opened ∙ ap (λ l. 91 ∷ l) (read.text_is ∙ ap (λ l. plan_text q ++ l) closed)) ∙ sym (holder_text q tail);
      }
        where
          outer : (n : ℕ) → 0 < n → Within (n - 1) q → Within n (holder q)
          outer zero d h = absurd (omega arith)
          outer (suc n) d h = subst (λ m. Within m q) (less n) h

  -- A text that begins as a pair does.
  module _ (rest : List ℕ) (e : text ≡ 40 ∷ rest) where
    as_pair : (p : Plan) (tail : List ℕ) → Begins n text tail p
        → (x : Plan) × (y : Plan) × Within (n - 1) x × Within (n - 1) y × (rest ≡ plan_text x ++ 44 ∷ (plan_text y ++ 41 ∷ tail))
    unfolding plan_text
    as_pair table tail b = absurd (omega (arith, same_first (sym e ∙ b.text_is)))
    as_pair serial tail b = absurd (omega (arith, same_first (sym e ∙ b.text_is)))
    as_pair (tables k) tail b = absurd (omega (arith, same_first (sym e ∙ b.text_is)))
    as_pair (holder x) tail b = absurd (omega (arith, same_first (sym e ∙ b.text_is)))
    as_pair (pair x y) tail b = let h = inner n b.within in (x, y, h.0, h.1, same_rest (sym e ∙ b.text_is ∙ pair_text x y tail))
      where
        inner : (n : ℕ) → Within n (pair x y) → Within (n - 1) x × Within (n - 1) y
        inner zero h = absurd h
        inner (suc n) h = (subst (λ m. Within m x) (sym (less n)) h.0, subst (λ m. Within m y) (sym (less n)) h.1)

    pub pair_empty : BeginsNone (n - 1) rest → BeginsNone n text
    pair_empty none p tail b = let h = as_pair p tail b in none h.0 (44 ∷ (plan_text h.1 ++ 41 ∷ tail)) (record { within = h.2; text_is = h.4 })

    module _ (q : Plan) (more : List ℕ) (left : Begins (n - 1) rest more q) where
      split : (p : Plan) (tail : List ℕ) (b : Begins n text tail p) → more ≡ 44 ∷ (plan_text (as_pair p tail b).1 ++ 41 ∷ tail)
      split p tail b =
          let h = as_pair p tail b in
          same_behind (n - 1) (n - 1) q h.0 more (44 ∷ (plan_text h.1 ++ 41 ∷ tail)) left.within h.2 (sym left.text_is ∙ h.4)

      pub pair_unsplit : ((r : List ℕ) → more ≡ 44 ∷ r → ⊥) → BeginsNone n text
      pair_unsplit none p tail b = none _ (split p tail b)

      module _ (second : List ℕ) (comma : more ≡ 44 ∷ second) where
        pub pair_half : BeginsNone (n - 1) second → BeginsNone n text
        pair_half none p tail b =
            let h = as_pair p tail b in
            none h.1 (41 ∷ tail) (record { within = h.3; text_is = same_rest (sym comma ∙ split p tail b) })

        pub pair_unclosed : (r : Plan) (last : List ℕ) → Begins (n - 1) second last r → ((t : List ℕ) → last ≡ 41 ∷ t → ⊥) → BeginsNone n text
        pair_unclosed r last right none p tail b =
            let h = as_pair p tail b in
            none tail (same_behind (n - 1) (n - 1) r h.1 last (41 ∷ tail) right.within h.3 (sym right.text_is ∙ same_rest (sym comma ∙ split p tail b)))

        pub pair_begins : 0 < n → (r : Plan) (last tail : List ℕ) → Begins (n - 1) second last r → last ≡ 41 ∷ tail → Begins n text tail (pair q r)
        pair_begins deep r last tail right closed = record {
          within = outer n deep left.within right.within;
          text_is = e ∙ ap (λ l. 40 ∷ l) (left.text_is ∙ ap (λ l. plan_text q ++ l) (comma ∙ ap (λ l. 44 ∷ l) (right.text_is ∙ ap (λ l. plan_text r ++ l) closed))) ∙ sym (pair_text q r tail);
        }
          where
            outer : (n : ℕ) → 0 < n → Within (n - 1) q → Within (n - 1) r → Within n (pair q r)
            outer zero d h i = absurd (omega arith)
            outer (suc n) d h i = (subst (λ m. Within m q) (less n) h, subst (λ m. Within m r) (less n) i)
