-- The sizes of an image.
use Rattle.description.specs.Names.{unwrap_or, Geometry}
use Rattle.description.specs.declared.sizes.Sizes.{Sizes}

-- the requested sizes, and the image's own where none is requested
abbrev pub grown_geometry : Geometry → Sizes → Geometry
grown_geometry own sizes = record {
  nodes = unwrap_or sizes.nodes own.nodes;
  pages = unwrap_or sizes.pages own.pages;
  log = unwrap_or sizes.log own.log;
}
