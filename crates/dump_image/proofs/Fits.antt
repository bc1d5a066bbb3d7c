-- What holds of an image that was read: of its version, its counts and its length. Crate `dump_image`.
use mathlib.Core.Path.{◌≡◌, refl, sym, ap, ◌∙◌, subst}
use mathlib.Core.Bool.{Bool, true, false, cond, not, ◌||◌}
use mathlib.Core.List.{List}
use Prim.Native.Nat.{ℕ, ◌+◌, ◌*◌, ◌≤◌}
use native.Mathlib.Omega.{arith}
use borrow.Author.Tests.{eq-eqb, ne_eqb, le-ltb, ltb-false, eqb-true}
use lib.Dec.{eqb, ltb}
use lib.ListN.{length, get_or}
use Rattle.dump_image.specs.declared.Image.{Image}
use Rattle.dump_image.specs.declared.Fault.TheVariants.{Version, Short, Counts, Length}
use Rattle.dump_image.specs.Image.{told_length, head_of, image_at, verdict_of, headed_of, front_of, alone_of, read_of}
use Rattle.std.specs.Prelude.{Err, None, Ok, Option, Result, Some}
use Rattle.dump_image.specs.declared.Fault.{Fault}

apart : {A : Type 0} → ◌≡◌ {A = ℕ} 0 1 → A
apart x = absurd (omega arith)

-- a rule of every known version holds of those that `head_of` lists
pub each_version : (P : ℕ → ℕ → Type 0) → P 1 4 → (v n : ℕ) → head_of v ≡ Some n → P v n
each_version P one v n e = go (eqb v 1) refl e
  where
    go : (b : Bool) → eqb v 1 ≡ b → cond b (Some 4) None ≡ Some n → P v n
    go true f g =
        let k : ◌≡◌ {A = ℕ} 4 n = cc in
        subst (P v) k (subst (λ (w : ℕ). P w 4) (sym (eqb-true v 1 f)) one)
    go false f g = apart (cc)

pub fields-few : (v n : ℕ) → head_of v ≡ Some n → n ≤ 8
fields-few = each_version (λ (v n : ℕ). n ≤ 8) (omega arith)

-- ---- what an image at the front of some bytes tells

pub record Fits (s : List ℕ) (f : Image) : Type 0 where
  pub fields : ℕ
  pub known : head_of (get_or s 0 0) ≡ Some fields
  pub is : f ≡ image_at (get_or s 0 0) fields s
  pub l0_most : f.l0 ≤ 64
  pub arena_most : f.arena ≤ 4096
  pub told : 5 + told_length s ≡ f.end
  pub inside : f.end ≤ length s

pub front_fits : (s : List ℕ) (f : Image) → front_of s ≡ Ok f → Fits s f
unfolding front_of
front_fits s f e = start (eqb (length s) 0) (head_of (get_or s 0 0)) refl e
  where
    v : ℕ
    v = get_or s 0 0

    judged : (n : ℕ) → head_of v ≡ Some n → (g : Image) → g ≡ image_at v n s
        → (a b c d : Bool) → ltb 64 g.l0 ≡ a → ltb 4096 g.arena ≡ b → ltb (length s) g.end ≡ c
        → eqb (5 + told_length s) g.end ≡ d
        → cond (a || b) (Err Counts) (cond c (Err Short) (cond (not d) (Err Length) (Ok g))) ≡ Ok f → Fits s f
    judged n k g i false false false true x y z t w =
        subst (Fits s) (cc)
        (record {
          fields = n;
          known = k;
          is = i;
          l0_most = ltb-false _ _ x;
          arena_most = ltb-false _ _ y;
          told = eqb-true _ _ t;
          inside = ltb-false _ _ z;
        })
    judged n k g i true b c d x y z t w = apart (cc)
    judged n k g i false true c d x y z t w = apart (cc)
    judged n k g i false false true d x y z t w = apart (cc)
    judged n k g i false false false false x y z t w = apart (cc)

    long : (n : ℕ) → head_of v ≡ Some n → (b : Bool)
        → cond b (Err Short) (verdict_of (image_at v n s) (told_length s) (length s)) ≡ Ok f → Fits s f
    long n k true w = apart (cc)
    long n k false w = judged n k (image_at v n s) refl _ _ _ _ refl refl refl refl w

    start : (b : Bool) (h : Option ℕ) → head_of v ≡ h → cond b (Err Version) (headed_of s v h) ≡ Ok f → Fits s f
    start true h k w = apart (cc)
    start false None k w = apart (cc)
    start false (Some n) k w = long n k (ltb (length s) (21 + n)) w

-- the words lie between the place where they start and the end
pub ends : (s : List ℕ) (f : Image) → Fits s f → f.end ≡ f.words + 8 * (f.l0 + f.arena)
ends s f t = subst (λ (g : Image). g.end ≡ g.words + 8 * (g.l0 + g.arena)) (sym t.is) refl

-- .. and what tells so much is one
pub front-whole : (s : List ℕ) (f : Image) → Fits s f → front_of s ≡ Ok f
unfolding front_of
front-whole s f t =
    let n = t.fields in
    let e : f.end ≡ (image_at (get_or s 0 0) n s).end = ap (λ (g : Image). g.end) t.is in
    let i = t.inside in
    let h : 21 + n ≤ length s = omega arith in
    rw (ne_eqb (length s) 0 (omega arith), t.known, le-ltb (length s) (21 + n) h)
    (ap (λ (g : Image). verdict_of g (told_length s) (length s)) (sym t.is)
    ∙ rw (le-ltb _ _ t.l0_most, le-ltb _ _ t.arena_most, le-ltb _ _ i, eq-eqb _ _ t.told))

-- an image alone ends with the bytes
pub whole_front : (s : List ℕ) (f : Image) → read_of s ≡ Ok f → (front_of s ≡ Ok f) × (length s ≤ f.end)
unfolding read_of
whole_front s f e = go (front_of s) refl e
  where
    ends : (g : Image) → front_of s ≡ Ok g → (b : Bool) → ltb g.end (length s) ≡ b → cond b (Err Length) (Ok g) ≡ Ok f
        → (front_of s ≡ Ok f) × (length s ≤ f.end)
    ends g p true q w = apart (cc)
    ends g p false q w = subst (λ (h : Image). (front_of s ≡ Ok h) × (length s ≤ h.end)) (cc) (p, ltb-false _ _ q)

    go : (r : Result Image Fault) → front_of s ≡ r → alone_of (length s) r ≡ Ok f → (front_of s ≡ Ok f) × (length s ≤ f.end)
    go (Err g) p w = apart (cc)
    go (Ok g) p w = ends g p (ltb g.end (length s)) refl w

pub whole_fits : (s : List ℕ) (f : Image) → read_of s ≡ Ok f → Fits s f
whole_fits s f e = front_fits s f (whole_front s f e).0
