-- The layout of made text.
use Rattle.std.specs.Prelude.{◌≤◌, false, None}
use Rattle.cm_text.specs.declared.layout.Layout.{Layout}

-- tabs are 1 to 16 columns wide
pub record HasTabWidth (layout : Layout) : Type 0 where
  pub least : 1 ≤ layout.tab_width
  pub most : layout.tab_width ≤ 16

abbrev pub usual_layout : Layout
usual_layout = record { tab_width = 4; use_tabs = false; quote = None; trailing_comma = false; tight_braces = false; arrow_parens = false }
