mod FirstBound
