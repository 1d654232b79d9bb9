-- Regions as the program has them.
use Rattle.st_key.specs.Key.{rank}
use Rattle.st_index.specs.inner.Index.{Region, region}
use Rattle.st_index.specs.declared.index.KeyRange.{KeyRange}

abbrev pub region_in : KeyRange → Region
region_in r = region (rank r.first) (rank r.last)
