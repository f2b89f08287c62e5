-- A list with one element for each of another one's that pass a test, and one more.
use Rattle.std.proofs.Common.{◌≡◌, ◌∙◌, ◌+◌, ◌<◌, ℕ, Bool, true, false, List, [], ◌∷◌, ◌++◌, length, take, get_or, cond, filter, sym, ap, subst, append-nil}
use Rattle.std.specs.List.{AllZip}
use Rattle.std.proofs.lemmas.List.Elements.{filter_more}

module _ {X Y : Type 0} (R : X → Y → Type 0) (test : X → Bool) where
  each_push : (xs : List X) (ys : List Y) (x : X) (y : Y) → AllZip R xs ys → R x y → AllZip R (xs ++ x ∷ []) (ys ++ y ∷ [])
  each_push [] [] x y h k = (k, tt)
  each_push [] (z ∷ ys) x y h k = absurd h
  each_push (w ∷ xs) [] x y h k = absurd h
  each_push (w ∷ xs) (z ∷ ys) x y h k = (h.0, each_push xs ys x y h.1 k)

  next : (xs : List X) (i : ℕ) (x : X) → i < length xs → x ≡ get_or xs i x → filter test (take (i + 1) xs) ≡ filter test (take i xs) ++ cond (test x) (x ∷ []) []
  next xs i x inside at = filter_more test xs i x inside ∙ ap (λ v. filter test (take i xs) ++ cond (test v) (v ∷ []) []) (sym at)

  pub passed : (xs : List X) (i : ℕ) (x : X) (ys : List Y) → i < length xs → x ≡ get_or xs i x → test x ≡ false → AllZip R (filter test (take i xs)) ys
      → AllZip R (filter test (take (i + 1) xs)) ys
  passed xs i x ys inside at fails h =
      let same = next xs i x inside at ∙ ap (λ b. filter test (take i xs) ++ cond b (x ∷ []) []) fails ∙ append-nil (filter test (take i xs)) in
      subst (λ l. AllZip R l ys) (sym same) h

  pub kept : (xs : List X) (i : ℕ) (x : X) (ys new : List Y) (y : Y) → i < length xs → x ≡ get_or xs i x → test x ≡ true → AllZip R (filter test (take i xs)) ys → R x y
      → new ≡ ys ++ y ∷ [] → AllZip R (filter test (take (i + 1) xs)) new
  kept xs i x ys new y inside at passes h k made =
      let more = next xs i x inside at ∙ ap (λ b. filter test (take i xs) ++ cond b (x ∷ []) []) passes in
      subst (λ l. AllZip R l new) (sym more) (subst (λ l. AllZip R (filter test (take i xs) ++ x ∷ []) l) (sym made) (each_push (filter test (take i xs)) ys x y h k))
