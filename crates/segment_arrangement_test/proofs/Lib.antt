mod StringMaps
