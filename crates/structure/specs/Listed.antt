-- "The names that could stand are listed once each, by the earliest place possible there."
use Rattle.std.specs.Prelude.{◌≡◌, ◌↔◌, List, [], ◌∷◌, map, ℕ, suc, ◌≤◌, ◌<◌}

-- x is one of a list
pub data In (x : ℕ) : List ℕ → Type 0 where
  here : {l : List ℕ} → In x (x ∷ l)
  there : {y : ℕ} {l : List ℕ} → In x l → In x (y ∷ l)

-- from k on, and each greater than the one before it
abbrev pub Rising : ℕ → List ℕ → Type 0
Rising k [] = Unit {0}
Rising k (p ∷ ps) = (k ≤ p) × Rising (suc p) ps

-- p is possible, and no earlier place of the same name is
pub record Earliest (Possible : ℕ → Type 0) (name_at : ℕ → ℕ) (p : ℕ) : Type 0 where
  pub possible : Possible p
  pub no_earlier : (q : ℕ) → q < p → Possible q → name_at q ≡ name_at p → ⊥

-- l has the names of exactly those places, in written order; so each name that is possible stands in it
pub record Listed (Possible : ℕ → Type 0) (name_at : ℕ → ℕ) (l : List ℕ) : Type 0 where
  pub places : List ℕ
  pub rising : Rising 0 places
  pub exactly : (p : ℕ) → In p places ↔ Earliest Possible name_at p
  pub named : l ≡ map name_at places
  pub every : (q : ℕ) → Possible q → In (name_at q) l
