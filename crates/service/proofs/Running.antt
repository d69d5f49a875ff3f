-- Lines that were served, and those that are left.
use Rattle.std.proofs.Common.{◌≡◌, ℕ, ◌+◌, ◌-◌, ◌^◌, ◌<◌, ◌≤◌, Option, None, Some, IfSome, Ok, Err, Result, Bool, true, false, cond, leb, List, [], ◌∷◌, ◌++◌, length, take, refl, sym, ap, subst, ◌∙◌, arith, append_assoc, append-nil, take_all, ⊎_elim, ◌⊎◌, true≢false, ne_eqb}
use Rattle.std.proofs.lemmas.Bool.{leb-true}
use Rattle.std.specs.Io.BufRead.{drop_through, DropsThrough}
use Rattle.std.specs.Io.KnownBytes.{Appends, Keeps}
use Rattle.tokens.specs.declared.fault.Fault.{Fault}
use Rattle.tokens.specs.declared.fault.Fault.TheVariants.{Long}
use Rattle.lines.specs.Lines.{line_of, lines_of, read_as, outcome, kept}
use Rattle.lines.proofs.Parted.{first_parted}
use Rattle.desk.specs.declared.reply.Reply.{Reply}
use Rattle.desk.specs.declared.reply.Reply.TheVariants.{Nothing, Answer, Refusal}
use Rattle.service.specs.Served.{printed, shown_counts, answers, refusals, SaidTo, Served}

-- facts of options and lists
abbrev is_there : {A : Type 0} → Option A → Bool
is_there None = false
is_there (Some x) = true

some_is : {A : Type 0} {x : A} → Some x ≡ None → ⊥
some_is e = true≢false (ap is_there e)

abbrev or_else : {A : Type 0} → A → Option A → A
or_else d None = d
or_else d (Some x) = x

some_same : {A : Type 0} {x y : A} → Some x ≡ Some y → x ≡ y
some_same {x = x} e = ap (or_else x) e

nothing : (ys : List ℕ) → length ys ≡ 0 → ys ≡ []
nothing [] none = refl
nothing (y ∷ ys) none = absurd (omega arith)

no_line : (ys : List ℕ) → None ≡ outcome ys → ys ≡ []
no_line [] e = refl
no_line (y ∷ ys) e = absurd (some_is (sym (e ∙ ap (λ b. cond b None (Some (read_as (line_of (y ∷ ys))))) (ne_eqb (length (y ∷ ys)) 0 (λ z. omega arith)))))

appended : (xs : List ℕ) (o : Option (List ℕ)) (bs : List ℕ) → Appends (Some xs) o bs → o ≡ Some (xs ++ bs)
appended xs None bs h = absurd h
appended xs (Some ys) bs h = ap Some h

flushed_as : (o p : Option (List ℕ)) (xs : List ℕ) → o ≡ Some xs → Keeps o p → p ≡ Some xs
flushed_as None p xs e k = absurd (some_is (sym e))
flushed_as (Some zs) None xs e k = absurd k
flushed_as (Some zs) (Some ys) xs e k = ap Some k ∙ e

one_at_most : (reply : Reply) → answers reply + refusals reply ≤ 1
one_at_most Nothing = omega arith
one_at_most (Answer s) = omega arith
one_at_most (Refusal s) = omega arith

module _ {D : Type 0} (Says : D → ℕ → List ℕ → Reply → D → Type 0) where
  -- what was read and written before the line with the number n, and what stands before the reader and the writer now
  pub record Running (xs before : List ℕ) (first now : D) (n answered refused : ℕ) (left written : Option (List ℕ)) : Type 0 where
    pub ys : List ℕ
    pub text : List ℕ
    pub left_is : left ≡ Some ys
    pub written_is : written ≡ Some (before ++ text)
    pub counted : answered + refused < n
    pub room : n + length ys ≤ length xs + 1
    pub goes : (tail : List ℕ) (last : D) → Served Says (lines_of ys) n answered refused now tail last → Served Says (lines_of xs) 1 0 0 first (text ++ tail) last

  abbrev pub RunningAt : Option (List ℕ) → Option (List ℕ) → D → D → ℕ → ℕ → ℕ → Option (List ℕ) → Option (List ℕ) → Type 0
  RunningAt known out first now n answered refused left written =
      IfSome known (λ xs. IfSome out (λ before. length xs < 2 ^ 64 - 1 → Running xs before first now n answered refused left written))

  pub starts : (known out : Option (List ℕ)) (d : D) (a r : ℕ) → a ≡ 0 → r ≡ 0 → RunningAt known out d d 1 a r known out
  starts None out d a r no_a no_r = tt
  starts (Some xs) None d a r no_a no_r = tt
  starts (Some xs) (Some before) d a r no_a no_r = λ small. record {
    ys = xs;
    text = [];
    left_is = refl;
    written_is = ap Some (sym (append-nil before));
    counted = omega (arith, no_a, no_r);
    room = omega arith;
    goes = λ tail last served. subst (λ k. Served Says (lines_of xs) 1 k 0 d tail last) no_a (subst (λ k. Served Says (lines_of xs) 1 a k d tail last) no_r served);
  }

  -- a line that is kept is told as it stands; one that is too long is told of its length alone
  said_whole : (line : List ℕ) (before after : D) (n : ℕ) (reply : Reply) → SaidTo Says before n (read_as line) (take 65537 line) reply after → SaidTo Says before n (read_as line) line reply after
  said_whole line before after n reply = at (leb (length line) 65536) refl
    where
      at : (b : Bool) → leb (length line) 65536 ≡ b → SaidTo Says before n (cond b (Ok tt) (Err Long)) (take 65537 line) reply after → SaidTo Says before n (cond b (Ok tt) (Err Long)) line reply after
      at true e h = subst (λ l. SaidTo Says before n (Ok tt) l reply after) (take_all 65537 line (omega (arith, leb-true (length line) 65536 e))) h
      at false e h = h

  -- one line more
  step : (xs before : List ℕ) (first now after : D) (n a r a' r' : ℕ) (left written : Option (List ℕ)) (read : Result (Unit {0}) Fault) (line : List ℕ) (reply : Reply) (ys text : List ℕ)
      → length xs < 2 ^ 64 - 1 → a + r < n → n + length ys ≤ length xs + 1
      → ((tail : List ℕ) (last : D) → Served Says (lines_of ys) n a r now tail last → Served Says (lines_of xs) 1 0 0 first (text ++ tail) last)
      → Some read ≡ outcome ys → line ≡ kept ys → left ≡ Some (drop_through 10 ys) → SaidTo Says now n read line reply after
      → (a + r < 2 ^ 64 - 1 → (a' ≡ a + answers reply) × (r' ≡ r + refusals reply)) → written ≡ Some ((before ++ text) ++ printed reply)
      → Running xs before first after (n + 1) a' r' left written
  step xs before first now after n a r a' r' left written read line reply [] text small counted room goes o k d said count p = absurd (some_is o)
  step xs before first now after n a r a' r' left written read line reply (y ∷ ys) text small counted room goes o k d said count p =
      let all = y ∷ ys in
      let parted = first_parted y ys in
      let counts = count (omega (arith, counted, room, small)) in
      let is : read ≡ read_as (line_of all) = some_same (o ∙ ap (λ b. cond b None (Some (read_as (line_of all)))) (ne_eqb (length all) 0 (λ e. omega arith))) in
      let whole = said_whole (line_of all) now after n reply (subst (λ q. SaidTo Says now n q (kept all) reply after) is (subst (λ l. SaidTo Says now n read l reply after) k said)) in
      record {
        ys = drop_through 10 all;
        text = text ++ printed reply;
        left_is = d;
        written_is = p ∙ ap Some (append_assoc before text (printed reply));
        counted = omega (arith, counted, counts.0, counts.1, one_at_most reply);
        room = omega (arith, room, parted.1);
        goes = λ tail last served. subst (λ l. Served Says (lines_of xs) 1 0 0 first l last) (sym (append_assoc text (printed reply) tail))
            (goes (printed reply ++ tail) last (subst (λ l. Served Says l n a r now (printed reply ++ tail) last) (sym parted.0) (
              reply,
              after,
              tail,
              whole,
              refl,
              subst (λ m. Served Says (lines_of (drop_through 10 all)) (n + 1) m (r + refusals reply) after tail last) counts.0
                  (subst (λ m. Served Says (lines_of (drop_through 10 all)) (n + 1) a' m after tail last) counts.1 served),
            )));
      }

  pub more : (known out : Option (List ℕ)) (first now after : D) (n a r a' r' : ℕ) (left left' written written' : Option (List ℕ)) (found : Option (Result (Unit {0}) Fault))
      (read : Result (Unit {0}) Fault) (line shown : List ℕ) (reply : Reply)
      → RunningAt known out first now n a r left written
      → found ≡ Some read → IfSome left (λ ys. found ≡ outcome ys) → IfSome left (λ ys. line ≡ kept ys) → DropsThrough left left' 10
      → shown ≡ line → SaidTo Says now n read shown reply after
      → (a + r < 2 ^ 64 - 1 → (a' ≡ a + answers reply) × (r' ≡ r + refusals reply))
      → Appends written written' (printed reply)
      → RunningAt known out first after (n + 1) a' r' left' written'
  more None out first now after n a r a' r' left left' written written' found read line shown reply run is o k d same said count p = tt
  more (Some xs) None first now after n a r a' r' left left' written written' found read line shown reply run is o k d same said count p = tt
  more (Some xs) (Some before) first now after n a r a' r' left left' written written' found read line shown reply run is o k d same said count p = λ small.
      let now_at = run small in
      step xs before first now after n a r a' r' left' written' read line reply now_at.ys now_at.text small now_at.counted now_at.room now_at.goes
      (sym is ∙ subst (λ l. IfSome l (λ ys. found ≡ outcome ys)) now_at.left_is o)
      (subst (λ l. IfSome l (λ ys. line ≡ kept ys)) now_at.left_is k)
      (subst (λ l. DropsThrough l left' 10) now_at.left_is d)
      (subst (λ l. SaidTo Says now n read l reply after) same said) count (appended _ written' _ (subst (λ w. Appends w written' (printed reply)) now_at.written_is p))

  -- no line more
  pub ends : (known out : Option (List ℕ)) (first now : D) (n a r : ℕ) (left written shown flushed : Option (List ℕ))
      → RunningAt known out first now n a r left written
      → (2 ^ 64 - 1 ≤ n) ⊎ ((found : Option (Result (Unit {0}) Fault)) × (found ≡ None) × IfSome left (λ ys. found ≡ outcome ys))
      → Appends written shown (shown_counts a r ++ 10 ∷ []) → Keeps shown flushed
      → IfSome known (λ xs. IfSome out (λ before. length xs < 2 ^ 64 - 1 → (text : List ℕ) × (flushed ≡ Some (before ++ text)) × Served Says (lines_of xs) 1 0 0 first text now))
  ends None out first now n a r left written shown flushed run end p k = tt
  ends (Some xs) None first now n a r left written shown flushed run end p k = tt
  ends (Some xs) (Some before) first now n a r left written shown flushed run end p k = λ small.
      let now_at = run small in
      let none : now_at.ys ≡ [] = ⊎_elim (λ full. nothing now_at.ys (omega (arith, full, small, now_at.room))) (λ e. no_line now_at.ys (sym e.1 ∙ subst (λ l. IfSome l (λ ys. e.0 ≡ outcome ys)) now_at.left_is e.2)) end in
      let line = shown_counts a r ++ 10 ∷ [] in (
        now_at.text ++ line,
        flushed_as shown flushed _ (appended _ shown _ (subst (λ w. Appends w shown line) now_at.written_is p)) k ∙ ap Some (append_assoc before now_at.text line),
        now_at.goes line now (subst (λ l. Served Says (lines_of l) n a r now line now) (sym none) (refl, refl)),
      )
