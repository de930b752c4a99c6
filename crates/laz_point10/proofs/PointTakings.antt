-- A point is read if its groups are, one after another.
use Rattle.std.proofs.Common.{◌≡◌, List, ◌++◌}
use Rattle.laz_range.specs.Cut.{Cut}
use Rattle.laz_range.specs.Decoding.{Decoding, Takes, TakesNone}
use Rattle.laz_range.proofs.Public.{Takes-then, TakesNone-first, TakesNone-second}
use Rattle.laz_point10.specs.declared.history.History.{History}
use Rattle.laz_point10.specs.declared.models.HeadModels.{HeadModels}
use Rattle.laz_point10.specs.declared.models.SurfaceModels.{SurfaceModels}
use Rattle.laz_point10.specs.declared.models.ScanModels.{ScanModels}
use Rattle.laz_point10.specs.declared.models.PlaceModels.{PlaceModels}
use Rattle.laz_point10.specs.declared.models.Models.{Models}
use Rattle.laz_point10.specs.Groups.{HeadChoice, IsHead, head_cuts, SurfaceChoice, IsSurface, surface_cuts, ScanChoice, IsScan, scan_cuts, PlaceChoice, IsPlace, place_cuts}
use Rattle.laz_point10.specs.Coded.{IsPointChoice, choice_cuts, predicted}

abbrev pub Third : History → HeadChoice → ScanChoice × PlaceChoice → Type 0
Third m h z = IsScan (predicted m h.1) h.0 z.0 × IsPlace z.1

abbrev pub third : Models → History → HeadChoice → ScanChoice × PlaceChoice → List Cut
third ms m h z = scan_cuts ms.scan (predicted m h.1) h.0 h.1 z.0 ++ place_cuts ms.place h.1 z.1

abbrev pub Second : History → HeadChoice → SurfaceChoice × (ScanChoice × PlaceChoice) → Type 0
Second m h y = IsSurface (predicted m h.1) h.0 y.0 × Third m h y.1

abbrev pub second : Models → History → HeadChoice → SurfaceChoice × (ScanChoice × PlaceChoice) → List Cut
second ms m h y = surface_cuts ms.surface (predicted m h.1) h.0 h.1 y.0 ++ third ms m h y.1

pub point-takes : (ms : Models) (m : History) (h : HeadChoice) (x : SurfaceChoice) (y : ScanChoice) (z : PlaceChoice) (a b c d e : Decoding)
    → Takes (IsHead m.last) (head_cuts ms.head m.last) a b h
    → Takes (IsSurface (predicted m h.1) h.0) (surface_cuts ms.surface (predicted m h.1) h.0 h.1) b c x
    → Takes (IsScan (predicted m h.1) h.0) (scan_cuts ms.scan (predicted m h.1) h.0 h.1) c d y
    → Takes IsPlace (place_cuts ms.place h.1) d e z
    → Takes (IsPointChoice m) (choice_cuts ms m) a e (h, (x, (y, z)))
point-takes ms m h x y z a b c d e p q r s =
    Takes-then {X = HeadChoice} {Y = SurfaceChoice × (ScanChoice × PlaceChoice)} (IsHead m.last) (Second m) (head_cuts ms.head m.last) (second ms m) a b e h (x, (y, z)) p
    (Takes-then {X = SurfaceChoice} {Y = ScanChoice × PlaceChoice} (IsSurface (predicted m h.1) h.0) (λ _. Third m h) (surface_cuts ms.surface (predicted m h.1) h.0 h.1) (λ _. third ms m h) b c e x (y, z) q
    (Takes-then {X = ScanChoice} {Y = PlaceChoice} (IsScan (predicted m h.1) h.0) (λ _. IsPlace) (scan_cuts ms.scan (predicted m h.1) h.0 h.1) (λ _. place_cuts ms.place h.1) c d e y z r s))

pub point-none_head : (ms : Models) (m : History) (a b : Decoding) → TakesNone (IsHead m.last) (head_cuts ms.head m.last) a b → TakesNone (IsPointChoice m) (choice_cuts ms m) a b
point-none_head ms m a b p = TakesNone-first {X = HeadChoice} {Y = SurfaceChoice × (ScanChoice × PlaceChoice)} (IsHead m.last) (Second m) (head_cuts ms.head m.last) (second ms m) a b p

pub point-none_surface : (ms : Models) (m : History) (h : HeadChoice) (a b c : Decoding)
    → Takes (IsHead m.last) (head_cuts ms.head m.last) a b h
    → TakesNone (IsSurface (predicted m h.1) h.0) (surface_cuts ms.surface (predicted m h.1) h.0 h.1) b c
    → TakesNone (IsPointChoice m) (choice_cuts ms m) a c
point-none_surface ms m h a b c p q =
    TakesNone-second {X = HeadChoice} {Y = SurfaceChoice × (ScanChoice × PlaceChoice)} (IsHead m.last) (Second m) (head_cuts ms.head m.last) (second ms m) a b c h p
    (TakesNone-first {X = SurfaceChoice} {Y = ScanChoice × PlaceChoice} (IsSurface (predicted m h.1) h.0) (λ _. Third m h) (surface_cuts ms.surface (predicted m h.1) h.0 h.1) (λ _. third ms m h) b c q)

pub point-none_scan : (ms : Models) (m : History) (h : HeadChoice) (x : SurfaceChoice) (a b c d : Decoding)
    → Takes (IsHead m.last) (head_cuts ms.head m.last) a b h
    → Takes (IsSurface (predicted m h.1) h.0) (surface_cuts ms.surface (predicted m h.1) h.0 h.1) b c x
    → TakesNone (IsScan (predicted m h.1) h.0) (scan_cuts ms.scan (predicted m h.1) h.0 h.1) c d
    → TakesNone (IsPointChoice m) (choice_cuts ms m) a d
point-none_scan ms m h x a b c d p q r =
    TakesNone-second {X = HeadChoice} {Y = SurfaceChoice × (ScanChoice × PlaceChoice)} (IsHead m.last) (Second m) (head_cuts ms.head m.last) (second ms m) a b d h p
    (TakesNone-second {X = SurfaceChoice} {Y = ScanChoice × PlaceChoice} (IsSurface (predicted m h.1) h.0) (λ _. Third m h) (surface_cuts ms.surface (predicted m h.1) h.0 h.1) (λ _. third ms m h) b c d x q
    (TakesNone-first {X = ScanChoice} {Y = PlaceChoice} (IsScan (predicted m h.1) h.0) (λ _. IsPlace) (scan_cuts ms.scan (predicted m h.1) h.0 h.1) (λ _. place_cuts ms.place h.1) c d r))

pub point-none_place : (ms : Models) (m : History) (h : HeadChoice) (x : SurfaceChoice) (y : ScanChoice) (a b c d e : Decoding)
    → Takes (IsHead m.last) (head_cuts ms.head m.last) a b h
    → Takes (IsSurface (predicted m h.1) h.0) (surface_cuts ms.surface (predicted m h.1) h.0 h.1) b c x
    → Takes (IsScan (predicted m h.1) h.0) (scan_cuts ms.scan (predicted m h.1) h.0 h.1) c d y
    → TakesNone IsPlace (place_cuts ms.place h.1) d e
    → TakesNone (IsPointChoice m) (choice_cuts ms m) a e
point-none_place ms m h x y a b c d e p q r s =
    TakesNone-second {X = HeadChoice} {Y = SurfaceChoice × (ScanChoice × PlaceChoice)} (IsHead m.last) (Second m) (head_cuts ms.head m.last) (second ms m) a b e h p
    (TakesNone-second {X = SurfaceChoice} {Y = ScanChoice × PlaceChoice} (IsSurface (predicted m h.1) h.0) (λ _. Third m h) (surface_cuts ms.surface (predicted m h.1) h.0 h.1) (λ _. third ms m h) b c e x q
    (TakesNone-second {X = ScanChoice} {Y = PlaceChoice} (IsScan (predicted m h.1) h.0) (λ _. IsPlace) (scan_cuts ms.scan (predicted m h.1) h.0 h.1) (λ _. place_cuts ms.place h.1) c d e y r s))

pub same-models : (a a2 : HeadModels) (b b2 : SurfaceModels) (c c2 : ScanModels) (d d2 : PlaceModels) → a ≡ a2 → b ≡ b2 → c ≡ c2 → d ≡ d2
    → (let x : Models = record { head = a; surface = b; scan = c; place = d } in x) ≡ record { head = a2; surface = b2; scan = c2; place = d2 }
same-models a a2 b b2 c c2 d d2 e f g h = cc
