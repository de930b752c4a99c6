-- From what was read of a point to the events that spell it, and back, for an item that stands for earlier events and
-- points.
use Rattle.std.proofs.Common.{◌≡◌, ℕ, List, ◌∷◌, ◌++◌, sym, ap, subst, ◌∙◌}
use Rattle.laz_range.specs.Coding.{Coding, Codes}
use Rattle.laz_range.specs.Cut.{AreCuts, Cut}
use Rattle.laz_range.specs.Decoding.{Decoding, NoneBegins, Refuses, Takes, TakesNone}
use Rattle.laz_range.proofs.Public.{Takes-through, TakesNone-through, Takes-ReadsOn, Takes-begins, Refuses-none, Refuses-NoneBegins}
use Rattle.laz_integer.specs.Events.{Event, Name, cuts_after}
use Rattle.laz_integer.specs.Ranged.{AreRanged}
use Rattle.laz_integer.proofs.Public.{Piece, AreCuts-ranged}
use Rattle.laz_point10.specs.declared.point.Point.{Point}
use Rattle.laz_point10.specs.declared.history.Predictions.{Predictions}
use Rattle.laz_point10.specs.declared.history.History.{History}
use Rattle.laz_point10.specs.declared.models.Models.{Models}
use Rattle.laz_point10.specs.Points.{IsPoint}
use Rattle.laz_point10.specs.PointEvents.{SpellsBy, events_by, point_events}
use Rattle.laz_point10.specs.Coded.{AreModels, HistoryStands, IsHistory, IsPointChoice, ModelsStand, PointChoice, choice_cuts, choice_events, choice_next, choice_written, point_made}
use Rattle.laz_point10.specs.Items.{HasPointSizes, IsSpelledPoint, PointStands, PointState, ReadsPoint}
use Rattle.laz_integer.specs.Spelled.{OneBegins, spelled_cuts}
use Rattle.laz_point10.specs.Laws.{point_kinds}
use Rattle.laz_point10.proofs.Choices.{chosen, spelled}
use Rattle.laz_point10.proofs.Histories.{predicted-is}
use Rattle.laz_point10.proofs.PointPieces.{MayChoice, events-written, may-asked, may-written, piece-point}
use Rattle.laz_point10.proofs.Lawful.{point-ranged}

same_spelling : (a b : List Event) (p q : Point) → a ≡ b → p ≡ q → ◌≡◌ {A = List Event × Point} (a, p) (b, q)
same_spelling a b p q e f = cc

module _ (earlier : List Event) (points : List Point) (st : PointState) (is : AreModels st.models) (bytes : IsHistory st.history) (stands : PointStands earlier points st) where
  abbrev h : History
  h = st.history

  abbrev spelling : PointChoice → List Event × Point
  spelling x = (choice_events h x, point_made h x)

  piece : (x : PointChoice) → MayChoice x → Piece point_kinds (choice_events h x) (choice_cuts st.models h x) (λ l. ModelsStand l st.models) (λ l. ModelsStand l (choice_next st.models h x))
  piece x may = piece-point st.models h x is bytes.flags bytes.classification bytes.user_data may

  to-spelling : (x : PointChoice) → IsPointChoice h x → IsSpelledPoint points (spelling x)
  to-spelling x asked = subst (λ (e : Predictions). SpellsBy e (choice_events h x) (point_made h x)) (predicted-is points h x.0.1 stands.history) (spelled h x asked)

  from-spelling : (z : List Event × Point) → IsSpelledPoint points z → (x : PointChoice) × IsPointChoice h x × (spelling x ≡ z)
  from-spelling z s =
      let c = chosen h z.0 z.1 (subst (λ (e : Predictions). SpellsBy e z.0 z.1) (sym (predicted-is points h z.1.flags stands.history)) s) in
      (c.x, c.asked, same_spelling _ _ _ _ c.events_are c.makes)

  events-cut : (x : PointChoice) → IsPointChoice h x → spelled_cuts earlier (spelling x) ≡ choice_cuts st.models h x
  events-cut x asked = (piece x (may-asked h x asked)).cut earlier stands.models

  takes-point : (a b : Decoding) (x : PointChoice) → Takes (IsPointChoice h) (choice_cuts st.models h) a b x → Takes (IsSpelledPoint points) (spelled_cuts earlier) a b (spelling x)
  takes-point a b x f = Takes-through spelling (IsPointChoice h) (IsSpelledPoint points) (choice_cuts st.models h) (spelled_cuts earlier) a b x to-spelling from-spelling events-cut f

  pub refuses-point : (a b : Decoding) → TakesNone (IsPointChoice h) (choice_cuts st.models h) a b → Refuses (IsSpelledPoint points) (spelled_cuts earlier) a b
  refuses-point a b f =
      Refuses-none (IsSpelledPoint points) (spelled_cuts earlier) a b
      (TakesNone-through spelling (IsPointChoice h) (IsSpelledPoint points) (choice_cuts st.models h) (spelled_cuts earlier) a b from-spelling events-cut f)

  -- what was read is what was spelled
  pub reads-point : (a b : Decoding) (x : PointChoice) (point : Point) (models : Models) (history : History) → Takes (IsPointChoice h) (choice_cuts st.models h) a b x → point ≡ point_made h x
      → models ≡ choice_next st.models h x → HistoryStands (point ∷ points) history → ReadsPoint earlier points point a b (record { models = models; history = history })
  reads-point a b x point models history f e n more =
      let here : Takes (IsSpelledPoint points) (spelled_cuts earlier) a b (choice_events h x, point) =
      subst (λ (p : Point). Takes (IsSpelledPoint points) (spelled_cuts earlier) a b (choice_events h x, p)) (sym e) (takes-point a b x f) in
      let after = (piece x (may-asked h x f.choice.asked)).stands earlier stands.models in
      record {
        events = choice_events h x;
        takes = here;
        reads = λ sizes has before.
            Takes-ReadsOn (IsSpelledPoint points) (spelled_cuts earlier) a b (choice_events h x, point)
            (AreCuts-ranged sizes earlier (choice_events h x) before (point-ranged sizes points (choice_events h x) point has here.choice.asked)) here;
        stands = record { models = subst (λ (ms : Models). ModelsStand (earlier ++ choice_events h x) ms) (sym n) after; history = more };
      }

  -- what a writer codes
  module _ (point : Point) (fits : IsPoint point) where
    written-is : choice_events h (choice_written h point) ≡ point_events points point
    written-is = events-written h point ∙ ap (λ (e : Predictions). events_by e point) (predicted-is points h point.flags stands.history)

    written-piece : Piece point_kinds (choice_events h (choice_written h point)) (choice_cuts st.models h (choice_written h point)) (λ l. ModelsStand l st.models) (λ l. ModelsStand l (choice_next st.models h (choice_written h point)))
    written-piece = piece (choice_written h point) (may-written h point fits)

    pub codes-point : (a b : Coding) → Codes a b (choice_cuts st.models h (choice_written h point)) → Codes a b (cuts_after earlier (point_events points point))
    codes-point a b f =
        subst (λ (l : List Event). Codes a b (cuts_after earlier l)) written-is
        (subst (λ (cs : List Cut). Codes a b cs) (sym (written-piece.cut earlier stands.models)) f)

    pub stands-point : (models : Models) (history : History) → models ≡ choice_next st.models h (choice_written h point) → HistoryStands (point ∷ points) history
        → PointStands (earlier ++ point_events points point) (point ∷ points) (record { models = models; history = history })
    stands-point models history e more =
        let after = subst (λ (l : List Event). ModelsStand (earlier ++ l) (choice_next st.models h (choice_written h point))) written-is (written-piece.stands earlier stands.models) in
        record { models = subst (λ (ms : Models). ModelsStand (earlier ++ point_events points point) ms) (sym e) after; history = more }

-- ---- in the words of what begins the bytes, after lawful events
module _ (sizes : Name → ℕ) (has : HasPointSizes sizes) (earlier : List Event) (before : AreRanged sizes earlier) (points : List Point) where
  spelled-lawful : (z : List Event × Point) → IsSpelledPoint points z → AreCuts (spelled_cuts earlier z)
  spelled-lawful z asked = AreCuts-ranged sizes earlier z.0 before (point-ranged sizes points z.0 z.1 has asked)

  pub none-point : (a b : Decoding) → Refuses (IsSpelledPoint points) (spelled_cuts earlier) a b → NoneBegins (IsSpelledPoint points) (spelled_cuts earlier) a
  none-point a b f = Refuses-NoneBegins (IsSpelledPoint points) (spelled_cuts earlier) a b spelled-lawful f

  pub one-point : (a b : Decoding) (z : List Event × Point) → Takes (IsSpelledPoint points) (spelled_cuts earlier) a b z → OneBegins (IsSpelledPoint points) earlier a z.1
  one-point a b z f read had y asked begins = ap (λ (w : List Event × Point). w.1) (Takes-begins (IsSpelledPoint points) (spelled_cuts earlier) a b z spelled-lawful f read had y asked begins)
