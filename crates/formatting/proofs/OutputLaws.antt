-- What was written: bytes behind bytes, counted where they go into the room. Assumes nothing.
use mathlib.Core.Path.{◌≡◌, refl, sym, ap, ap₂, subst, ◌∙◌}
use mathlib.Core.List.{List, [], ◌++◌, append_assoc, append-nil}
use mathlib.Core.Bool.{Bool, true, false, cond}
use Prim.Native.Nat.{ℕ, ◌+◌, ◌-◌, ◌≤◌, ◌<◌}
use native.Mathlib.Omega.{arith}
use lib.Dec.{ltb, leb}
use lib.ListN.{length, take, drop, replicate, length-append, length-replicate}
use lib.Seq.{length-take-le}
use borrow.Author.Tests.{ltb-true, ltb-false, leb-true}
use Rattle.alphabet.proofs.BoolLaws.{false_true}
use Rattle.alphabet.specs.Filling.{over, pasted, put_at, behind}
use Rattle.alphabet.proofs.FillingLaws.{fill_more, fill_end, fill_from, fill_from_end, fill_length, put_fits, put_none}
use Rattle.formatting.specs.declared.page.Page.{Page}
use Rattle.formatting.specs.Sheet.{blanks}
use Rattle.formatting.specs.Pages.{out_with, new_line, spent_of, indent_of, shown_of, Output, Wrote}

-- ---- into a buffer

pasted_length : (d xs : List ℕ) (at : ℕ) → at + length xs ≤ length d → length (pasted d at xs) ≡ length d
pasted_length d xs at h =
    let n = length-append (take at d) xs in
    let m = length-take-le at d (omega arith) in
    fill_length (fill_more xs [] (pasted d at xs) (at + length xs) (fill_from xs d at (omega arith)) (sym (append-nil xs)) refl refl) (omega arith)

pub put_length : (d xs : List ℕ) (at : ℕ) → length (put_at d at xs) ≡ length d
unfolding put_at
put_length d xs at = by (leb (at + length xs) (length d)) refl
  where
    by : (t : Bool) → leb (at + length xs) (length d) ≡ t → length (cond t (pasted d at xs) d) ≡ length d
    by true e = pasted_length d xs at (leb-true (at + length xs) (length d) e)
    by false e = refl

pub kept_length : (w : Bool) (d xs : List ℕ) (at : ℕ) → length (cond w (put_at d at xs) d) ≡ length d
kept_length true d xs at = put_length d xs at
kept_length false d xs at = refl

pub over_more : (d₀ out xs d : List ℕ) (at : ℕ) → at ≡ length out → d ≡ over out d₀ → pasted d at xs ≡ over (out ++ xs) d₀
over_more d₀ out xs d at e f =
    fill_end
    (fill_more {W = out ++ xs} {d₀ = d₀} {rest₀ = xs} {d = d} {o = at} xs [] (pasted d at xs) (at + length xs)
    (record { front = out; whole = refl; size = sym e; holds = f ∙ ap (λ (n : ℕ). out ++ drop n d₀) (sym e) }) (sym (append-nil xs)) refl refl) refl

-- three writings one behind another, where there is room for all
pub put_three : (d : List ℕ) (at : ℕ) (xs ys zs d₁ d₂ d₃ : List ℕ) (a b : ℕ) → at + length (xs ++ (ys ++ zs)) ≤ length d
    → d₁ ≡ put_at d at xs → a ≡ at + length xs → d₂ ≡ put_at d₁ a ys → b ≡ behind (length d₁) a (length ys) → d₃ ≡ put_at d₂ b zs
    → d₃ ≡ put_at d at (xs ++ (ys ++ zs))
put_three d at xs ys zs d₁ d₂ d₃ a b h e₁ ea e₂ eb e₃ =
    let n = length-append xs (ys ++ zs) in
    let m = length-append ys zs in
    let w = length-append (take at d) (xs ++ (ys ++ zs)) in
    let k = length-take-le at d (omega arith) in
    let f₁ = fill_more xs (ys ++ zs) d₁ a (fill_from (xs ++ (ys ++ zs)) d at (omega arith)) refl (e₁ ∙ (put_fits d xs at (omega arith)).1) ea in
    let l₁ = fill_length f₁ (omega arith) in
    let p = put_fits d₁ ys a (omega arith) in
    let f₂ = fill_more ys zs d₂ b f₁ refl (e₂ ∙ p.1) (eb ∙ p.0) in
    let l₂ = fill_length f₂ (omega arith) in
    let q = eb ∙ p.0 in
    let f₃ = fill_more zs [] d₃ (b + length zs) f₂ (sym (append-nil zs)) (e₃ ∙ (put_fits d₂ zs b (omega arith)).1) refl in
    (fill_from_end (xs ++ (ys ++ zs)) at f₃ (omega arith) refl).1 ∙ sym (put_fits d (xs ++ (ys ++ zs)) at h).1

pub line_length : (i n : ℕ) (l : List ℕ) → length (blanks i ++ (l ++ replicate n 10)) ≡ i + (length l + n)
line_length i n l =
    let a = length-append (blanks i) (l ++ replicate n 10) in
    let b = length-append l (replicate n 10) in
    let c = length-replicate {A = ℕ} i 32 in
    let d = length-replicate {A = ℕ} n 10 in
    omega arith

-- ---- bytes behind bytes

spent_short : (n room : ℕ) (c : Page) → ltb (room - c.place) n ≡ true → spent_of n room c ≡ out_with c.place true c
unfolding spent_of
spent_short n room c e = rw e

spent_fits : (n room : ℕ) (c : Page) → ltb (room - c.place) n ≡ false → spent_of n room c ≡ out_with (c.place + n) c.short c
unfolding spent_of
spent_fits n room c e = rw e

either : (t : Bool) (x : List ℕ) → cond t x x ≡ x
either true x = refl
either false x = refl

module _ (xs d : List ℕ) (c : Page) (h : c.place ≤ length d) where
  short_wrote : (d' : List ℕ) → ltb (length d - c.place) (length xs) ≡ true → d' ≡ cond c.writes (put_at d c.place xs) d → Wrote xs c d (out_with c.place true c) d'
  short_wrote d' e f =
      let l = ltb-true (length d - c.place) (length xs) e in
      let same : d' ≡ d = f ∙ ap (λ (v : List ℕ). cond c.writes v d) (put_none d xs c.place (omega arith)).1 ∙ either c.writes d in
      let z = ap length same in
      record {
        within = omega arith;
        size = z;
        still = λ (w : c.writes ≡ false). same;
        output = λ (d₀ out : List ℕ) (n : length d ≡ length d₀) (o : Output d₀ out c.writes c.place c.short d).
            let a = length-append out xs in
            record {
              done = λ (q : true ≡ false). absurd (false_true (sym q));
              holds = λ (q : true ≡ false). absurd (false_true (sym q));
              beyond = λ (q : true ≡ true). by d₀ out n o c.short refl;
            };
      }
    where
      by : (d₀ out : List ℕ) → length d ≡ length d₀ → Output d₀ out c.writes c.place c.short d → (t : Bool) → c.short ≡ t → length d₀ < length (out ++ xs)
      by d₀ out n o true q = let a = length-append out xs in let b = o.beyond q in omega arith
      by d₀ out n o false q =
          let a = length-append out xs in
          let b = o.done q in
          let l = ltb-true (length d - c.place) (length xs) e in
          omega arith

  fits_wrote : (d' : List ℕ) → ltb (length d - c.place) (length xs) ≡ false → d' ≡ cond c.writes (put_at d c.place xs) d → Wrote xs c d (out_with (c.place + length xs) c.short c) d'
  fits_wrote d' e f =
      let l = ltb-false (length d - c.place) (length xs) e in
      let z = ap length f ∙ kept_length c.writes d xs c.place in
      record {
        within = omega arith;
        size = z;
        still = λ (w : c.writes ≡ false). f ∙ ap (λ (t : Bool). cond t (put_at d c.place xs) d) w;
        output = λ (d₀ out : List ℕ) (n : length d ≡ length d₀) (o : Output d₀ out c.writes c.place c.short d).
            let a = length-append out xs in
            record {
              done = λ (q : c.short ≡ false). let b = o.done q in omega arith;
              holds = λ (q : c.short ≡ false) (w : c.writes ≡ true). f ∙ ap (λ (t : Bool). cond t (put_at d c.place xs) d) w ∙ fitted ∙ over_more d₀ out xs d c.place (o.done q) (o.holds q w);
              beyond = λ (q : c.short ≡ true). let b = o.beyond q in omega arith;
            };
      }
    where
      fitted : put_at d c.place xs ≡ pasted d c.place xs
      fitted = let l = ltb-false (length d - c.place) (length xs) e in (put_fits d xs c.place (omega arith)).1

  pub wrote : (c' : Page) (d' : List ℕ) → c' ≡ spent_of (length xs) (length d) c → d' ≡ cond c.writes (put_at d c.place xs) d → Wrote xs c d c' d'
  wrote c' d' e f = by (ltb (length d - c.place) (length xs)) refl
    where
      by : (t : Bool) → ltb (length d - c.place) (length xs) ≡ t → Wrote xs c d c' d'
      by true q = subst (λ (k : Page). Wrote xs c d k d') (sym (e ∙ spent_short (length xs) (length d) c q)) (short_wrote d' q f)
      by false q = subst (λ (k : Page). Wrote xs c d k d') (sym (e ∙ spent_fits (length xs) (length d) c q)) (fits_wrote d' q f)

  -- nothing but the count changes
  pub spent_layout : (c' : Page) (n : ℕ) → c' ≡ spent_of n (length d) c → c' ≡ out_with c'.place c'.short c
  spent_layout c' n e = by (ltb (length d - c.place) n) refl
    where
      by : (t : Bool) → ltb (length d - c.place) n ≡ t → c' ≡ out_with c'.place c'.short c
      by true q = let z = e ∙ spent_short n (length d) c q in z ∙ ap (λ (k : Page). out_with k.place k.short c) (sym z)
      by false q = let z = e ∙ spent_fits n (length d) c q in z ∙ ap (λ (k : Page). out_with k.place k.short c) (sym z)

-- ---- a line, as it is shown

-- the line and LFs behind it are written, and counted
pub shown_wrote : (c c' : Page) (t d d' : List ℕ) (i n : ℕ) → c.place ≤ length d → length (take c.line t) ≡ c.line → i ≡ indent_of c
    → d' ≡ cond c.writes (put_at d c.place (blanks i ++ (take c.line t ++ replicate n 10))) d → c' ≡ spent_of (i + c.line + n) (length d') c
    → (c' ≡ out_with c'.place c'.short c) × Wrote (shown_of c t ++ replicate n 10) c d c' d'
shown_wrote c c' t d d' i n h b e f g =
    let xs = shown_of c t ++ replicate n 10 in
    let same : blanks i ++ (take c.line t ++ replicate n 10) ≡ xs = ap (λ (k : ℕ). blanks k ++ (take c.line t ++ replicate n 10)) e ∙ sym (append_assoc (blanks (indent_of c)) (take c.line t) (replicate n 10)) in
    let l = line_length i n (take c.line t) in
    let m = ap length same in
    let z : i + c.line + n ≡ length xs = omega arith in
    let counted : c' ≡ spent_of (length xs) (length d) c = g ∙ ap₂ (λ (k r : ℕ). spent_of k r c) z (ap length f ∙ kept_length c.writes d _ c.place) in
    (spent_layout xs d c h c' (length xs) counted, wrote xs d c h c' d' counted (f ∙ ap (λ (v : List ℕ). cond c.writes (put_at d c.place v) d) same))

-- the start of a line writes nothing
pub wrote_new : (xs : List ℕ) (c k c' : Page) (d d' : List ℕ) → Wrote xs c d k d' → c' ≡ new_line k → Wrote xs c d c' d'
wrote_new xs c k c' d d' f e =
    subst (λ (q : Page). Wrote xs c d q d') (sym e) (record { within = f.within; size = f.size; still = f.still; output = f.output })

pub layout_new : (c k c' : Page) → k ≡ out_with k.place k.short c → c' ≡ new_line k → c' ≡ new_line (out_with c'.place c'.short c)
layout_new c k c' f e = e ∙ ap new_line f ∙ ap (λ (q : Page). new_line (out_with q.place q.short c)) (sym e)
