-- Laws of the two numbers by which a byte is told to be allowed, and of the least and the most of many. Assumes nothing.
use mathlib.Core.Path.{◌≡◌, refl}
use mathlib.Core.Bool.{Bool, true, false, ◌&&◌}
use Prim.Native.Nat.{ℕ, ◌+◌, ◌-◌, ◌≤◌, ◌<◌, min, max}
use native.Mathlib.Omega.{arith}
use native.Mathlib.Decide.{dec_lt}
use lib.Dec.{eqb, leb}
use borrow.Author.Tests.{eqb-true, le-leb, lt-leb, lt-ltb, le-ltb, leb-true, leb-false}
use Rattle.alphabet.specs.Bytes.{carriage_return, allowed}
use Rattle.alphabet.specs.Allowed.{height_of, turned_of}

-- ---- the lesser and the greater of two

pub least_of : (k a b : ℕ) → leb k (min a b) ≡ (leb k a && leb k b)
least_of k a b = at (leb k a) (leb k b) refl refl
  where
    at : (s t : Bool) → leb k a ≡ s → leb k b ≡ t → leb k (min a b) ≡ (leb k a && leb k b)
    at true true e f =
        let l = leb-true k a e in
        let m = leb-true k b f in
        rw (e, f, le-leb k (min a b) (omega arith))
    at true false e f = let m = leb-false k b f in rw (e, f, lt-leb k (min a b) (omega arith))
    at false t e f = let l = leb-false k a e in rw (e, lt-leb k (min a b) (omega arith))

pub most_of : (k a b : ℕ) → leb (max a b) k ≡ (leb a k && leb b k)
most_of k a b = at (leb a k) (leb b k) refl refl
  where
    at : (s t : Bool) → leb a k ≡ s → leb b k ≡ t → leb (max a b) k ≡ (leb a k && leb b k)
    at true true e f =
        let l = leb-true a k e in
        let m = leb-true b k f in
        rw (e, f, le-leb (max a b) k (omega arith))
    at true false e f = let m = leb-false b k f in rw (e, f, lt-leb (max a b) k (omega arith))
    at false t e f = let l = leb-false a k e in rw (e, lt-leb (max a b) k (omega arith))

pub and_pairs : (a b h t : Bool) → ((a && h) && (b && t)) ≡ ((a && b) && (h && t))
and_pairs true true h t = refl
and_pairs true false true t = refl
and_pairs true false false t = refl
and_pairs false b h t = refl

-- ---- one byte

pub told : (b : ℕ) → b < 256 → (leb 32 (height_of b) && leb (turned_of b) 222) ≡ allowed b
told b m = first (eqb b carriage_return) refl
  where
    high : (eqb b carriage_return ≡ false) → 32 ≤ b → Dec (b < 127) → Dec (b < 160) → (leb 32 (height_of b) && leb (turned_of b) 222) ≡ allowed b
    high e l (yes p) q = rw (e, le-leb 32 b l, lt-ltb b 160 (omega arith), le-leb (b + 96) 222 (omega arith), le-leb b 126 (omega arith))
    high e l (no p) (yes q) = rw (e, le-leb 32 b l, lt-ltb b 160 q, lt-leb (b + 96) 222 (omega arith), lt-leb b 126 (omega arith), lt-leb 160 b q)
    high e l (no p) (no q) = rw (e, le-leb 32 b l, le-ltb b 160 (omega arith), le-leb (b - 160) 222 (omega arith), lt-leb b 126 (omega arith), le-leb 160 b (omega arith), le-leb b 255 (omega arith))

    other : (eqb b carriage_return ≡ false) → Dec (b < 32) → (leb 32 (height_of b) && leb (turned_of b) 222) ≡ allowed b
    other e (yes l) = rw (e, lt-leb 32 b l, lt-leb 160 b (omega arith))
    other e (no l) = high e (omega arith) (dec_lt b 127) (dec_lt b 160)

    first : (t : Bool) → eqb b carriage_return ≡ t → (leb 32 (height_of b) && leb (turned_of b) 222) ≡ allowed b
    first true e =
        let z : b ≡ 13 = eqb-true b carriage_return e in
        rw (e, lt-ltb b 160 (omega arith), le-leb (b + 96) 222 (omega arith))
    first false e = other e (dec_lt b 32)
